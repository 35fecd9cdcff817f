-- A BOARD THAT RUNS: any records handed over one after the other, each with the image that the last accepted call gave and a buffer with room. The images are
-- those of the rules' states for that history, and codes, choices and numbers are the rules'. (The first image may be of any edition that is known.) From the first boot on, power failures among them: Boots.antt.
use Rattle.std.specs.Prelude.{◌≡◌, refl, ◌≢◌, List, ◌∷◌, ◌++◌, ℕ, ◌≤◌, eqb, length, take, drop}
use Rattle.std.proofs.Common.{sym, ap, ap₂, subst, ◌∙◌, arith, eqb-true, ne_eqb, le-ltb, take_at}
use Rattle.std.proofs.lemmas.Bool.{eqb-false}
use Rattle.lists.specs.Laws.{by_test}
use Rattle.lists.specs.Every.{Every}
use Rattle.rules.specs.Values.{nobody}
use Rattle.rules.specs.Model.{Model}
use Rattle.rules.specs.Rules.{Outcome, outcome, full, refusal, given, next, after, choice}
use Rattle.rules.specs.Consistent.{Fits, Consistent}
use Rattle.rules.specs.declared.Event.{Event}
use Rattle.rules.specs.declared.Event.TheVariants.{Create, Send, Receive, Reply, End, WaitClock, SliceEnd, Tick, WaitDevice, Interrupt}
use Rattle.order.proofs.Keeps.{keeps}
use Rattle.journal.specs.Format.{read_at}
use Rattle.journal.specs.Laws.{Bytes}
use Rattle.journal.proofs.Laws.{read_whole}
use Rattle.journal.specs.declared.Read.{Read}
use Rattle.journal.specs.declared.Read.TheVariants.{Record, AtEnd, CutShort, UnknownKind, PastEnd}
use Rattle.saving.specs.Format.{encode}
use Rattle.saving.specs.Longest.{longest_image}
use Rattle.saving.proofs.Longest.{longest}
use Rattle.loading.specs.Loads.{Image}
use Rattle.loading.specs.Judges.{saved_image}
use Rattle.loading.proofs.Accepts.{refuses_not}
use Rattle.loading.proofs.Injective.{image_one}
use Rattle.logging.proofs.History.{after_append}
use Rattle.board.specs.Promise.{declined, acted, taken, step_on, Boards, unloaded, stepped}
use Rattle.board.specs.declared.Told.{Told}
use Rattle.recovery.specs.Runs.{heard, events_of, all_events, told, said_of, said, Calls, StandsFor, CallsRan}
use Rattle.recovery.specs.Runs.Calls.{over, accepted, refused}
use Rattle.recovery.specs.Runs.StandsFor.{first_still, saved}

pub calls_bytes : {image last : List ℕ} {recs : List (List ℕ)} {ts : List Told} → Calls image recs ts last → Every Bytes recs
calls_bytes over = tt {0}
calls_bytes (accepted b h k z rest) = (b, calls_bytes rest)
calls_bytes (refused b h k z rest) = (b, calls_bytes rest)

-- ---- one call
-- m became n, and this was said: an accepted call has the image of n in front, a refused one has changed nothing
record Step (m n : Model) (says : Told) (out : List ℕ) (t : Told × List ℕ) : Type 0 where
  same : t.0 ≡ says
  image : t.0.code ≡ 0 → take t.0.length t.1 ≡ encode n
  still : t.0.code ≢ 0 → (n ≡ m) × (t.1 ≡ out)

-- what a refused event leaves and says
record Still (m : Model) (o : Outcome) : Type 0 where
  state : o.state ≡ m
  choice : o.choice ≡ choice m
  number : o.number ≡ nobody

act_step : (m : Model) (o : Outcome) (out : List ℕ) → Consistent o.state → (o.code ≢ 0 → Still m o) → longest_image ≤ length out → Step m o.state (told o) out (acted m o out)
unfolding acted
act_step m o out C f h =
    let i : List ℕ = encode o.state in
    let l = longest o.state C in
    by_test (eqb o.code 0)
    (λ t.
    let z = eqb-true o.code 0 t in
    rw (t, le-ltb (length out) (length i) (omega arith)) (record {
      same = rw z refl;
      image = λ w. take_at i (drop (length i) out) (length i) refl;
      still = λ w. absurd (w refl);
    }))
    (λ t.
    let z = eqb-false o.code 0 t in
    let s = f z in
    rw t (record { same = rw (s.choice, s.number) refl; image = λ w. absurd (z w); still = λ w. (s.state, refl) }))

given_refused : (e : Event) (m : Model) → refusal e m ≢ 0 → given e m ≡ nobody
given_refused Create m h = by_test (full m) (λ t. rw t refl) (λ t. absurd ((rw t at h) refl))
given_refused (Send d w) m h = refl
given_refused (Receive n) m h = refl
given_refused (Reply t w) m h = refl
given_refused (End t) m h = refl
given_refused WaitClock m h = refl
given_refused SliceEnd m h = refl
given_refused Tick m h = refl
given_refused (WaitDevice i) m h = refl
given_refused (Interrupt s w) m h = refl

event_still : (e : Event) (m : Model) → refusal e m ≢ 0 → Still m (outcome e m)
event_still e m h = let s : next e m ≡ m = rw (ne_eqb (refusal e m) 0 h) refl in record { state = s; choice = ap choice s; number = given_refused e m h }

-- no event: nothing has changed, and 12 or 13 is said
bad_step : (m : Model) (out : List ℕ) {c : ℕ} → c ≢ 0 → Step m m (declined c (choice m)) out (declined c (choice m), out)
bad_step m out h = record { same = refl; image = λ w. absurd (h w); still = λ w. (refl, refl) }

read_step : (m : Model) (r : Read) (size : ℕ) (out : List ℕ) → Consistent m → ((e : Event) (n : ℕ) → r ≡ Record e n → Fits e) → longest_image ≤ length out
    → Step m (after (heard r size) m) (said_of m r size) out (taken m r size out)
read_step m (Record e n) size out C f h =
    by_test (eqb n size)
    (λ t. rw t (act_step m (outcome e m) out (keeps e m C (f e n refl)) (event_still e m) h))
    (λ t. rw t (bad_step m out (λ w. omega arith)))
read_step m AtEnd size out C f h = bad_step m out (λ w. omega arith)
read_step m CutShort size out C f h = bad_step m out (λ w. omega arith)
read_step m UnknownKind size out C f h = bad_step m out (λ w. omega arith)
read_step m PastEnd size out C f h = bad_step m out (λ w. omega arith)

-- an image of m takes a record
step_on_lem : (m : Model) {image rec out : List ℕ} {t : Told × List ℕ} → Image m image → Bytes rec → longest_image ≤ length out → Boards image rec out t
    → Step m (after (events_of rec) m) (said m rec) out t
step_on_lem m I b h (unloaded c R g) = absurd (refuses_not R (m, I))
step_on_lem m {rec = rec} {out = out} {t = t} I b h (stepped n J g) =
    let k : n ≡ m = image_one J I in
    let w : t ≡ step_on m rec out = g ∙ ap (λ (m : Model). step_on m rec out) k in
    subst (Step m (after (events_of rec) m) (said m rec) out) (sym w) (read_step m (read_at rec 0) (length rec) out I.1.consistent (λ e n q. (read_whole rec 0 e n b q).fits) h)

heard_consistent : (m : Model) (r : Read) (size : ℕ) → Consistent m → ((e : Event) (n : ℕ) → r ≡ Record e n → Fits e) → Consistent (after (heard r size) m)
heard_consistent m (Record e n) size C f = by_test (eqb n size) (λ t. rw t (keeps e m C (f e n refl))) (λ t. rw t C)
heard_consistent m AtEnd size C f = C
heard_consistent m CutShort size C f = C
heard_consistent m UnknownKind size C f = C
heard_consistent m PastEnd size C f = C

pub stands_image : {first image : List ℕ} {m : Model} → StandsFor first m image → Image m image
stands_image (first_still I e) = I
stands_image (saved C e) = saved_image C (sym e)

pub stands_consistent : {first image : List ℕ} {m : Model} → StandsFor first m image → Consistent m
stands_consistent k = (stands_image k).1.consistent

-- where the first one is of the newest edition, every one is
pub stands_newest : {first image : List ℕ} {m k : Model} → Consistent k → encode k ≡ first → StandsFor first m image → image ≡ encode m
stands_newest D f (first_still I e) = e ∙ sym f ∙ ap encode (image_one (saved_image D (f ∙ sym e)) I)
stands_newest D f (saved C e) = e

-- one more before them
ran_on : {first last rec : List ℕ} {recs : List (List ℕ)} {t : Told} {ts : List Told} {m : Model} → after (events_of rec ++ all_events recs) m ≡ after (all_events recs) (after (events_of rec) m) → t ≡ said m rec
    → CallsRan first (after (events_of rec) m) recs ts last → CallsRan first m (rec ∷ recs) (t ∷ ts) last
ran_on {first} {last} e f r = record {
  image = subst (λ (x : Model). StandsFor first x last) (sym e) r.image;
  answers = ap₂ (λ (t : Told) (ts : List Told). t ∷ ts) f r.answers;
  consistent = subst Consistent (sym e) r.consistent;
}

pub calls_ran : {first image last : List ℕ} {recs : List (List ℕ)} {ts : List Told} (m : Model) → StandsFor first m image → Calls image recs ts last → CallsRan first m recs ts last
calls_ran m S over = record { image = S; answers = refl; consistent = stands_consistent S }
calls_ran m S (accepted {rec = rec} {recs = recs} b h k z rest) =
    let s = step_on_lem m (stands_image S) b h k in
    let n : Model = after (events_of rec) m in
    let r = calls_ran n (saved (heard_consistent m (read_at rec 0) (length rec) (stands_consistent S) (λ e n q. (read_whole rec 0 e n b q).fits)) (s.image z)) rest in
    ran_on (after_append (events_of rec) (all_events recs) m) s.same r
calls_ran {first} {last = last} m S (refused {rec = rec} {recs = recs} {ts = ts} b h k z rest) =
    let s = step_on_lem m (stands_image S) b h k in
    let r = subst (λ (x : Model). CallsRan first x recs ts last) (sym (s.still z).0) (calls_ran m S rest) in
    ran_on (after_append (events_of rec) (all_events recs) m) s.same r
