-- A BOARD THAT COMES BACK (demand 3, as C sees it), boot after boot, as its start code does it: what `rumqatiss_fresh`, `rumqatiss_board` and
-- `rumqatiss_replay` promise, and nothing else. So the C side need believe nothing but the rules. It begins with the fresh image, or with any image that the
-- library takes, as one does that the build before an update has left.
use Rattle.std.specs.Prelude.{◌≡◌, refl, List, [], ◌∷◌, ◌++◌, ℕ, ◌≤◌, eqb, length, take, drop}
use Rattle.std.proofs.Common.{sym, ap, ap₂, subst, ◌∙◌, append_assoc, append-nil, arith, eqb-true, lt-ltb, le-ltb, length-take, take_at}
use Rattle.std.proofs.Math.Seq.{drop-length}
use Rattle.lists.specs.Laws.{by_test}
use Rattle.lists.specs.Every.{Every}
use Rattle.rules.specs.Values.{choice_kind, choice_runs}
use Rattle.rules.specs.Model.{Model}
use Rattle.rules.specs.Rules.{refusal, fresh, after, choice as chosen}
use Rattle.rules.specs.Consistent.{Consistent}
use Rattle.rules.specs.declared.Event.{Event}
use Rattle.order.specs.Keeps.{AllFit}
use Rattle.order.proofs.Keeps.{fresh_consistent}
use Rattle.order.proofs.Always.{always}
use Rattle.journal.specs.Format.{record_of, read_at}
use Rattle.journal.specs.Laws.{Bytes}
use Rattle.journal.proofs.Laws.{read_whole}
use Rattle.journal.specs.declared.Read.{Read}
use Rattle.journal.specs.declared.Read.TheVariants.{Record, AtEnd, CutShort, UnknownKind, PastEnd}
use Rattle.saving.specs.Format.{encode}
use Rattle.saving.specs.Longest.{longest_image}
use Rattle.saving.proofs.Longest.{longest}
use Rattle.loading.specs.Loads.{Image}
use Rattle.loading.specs.Judges.{saved_image}
use Rattle.loading.proofs.Accepts.{refuses_not}
use Rattle.loading.proofs.Injective.{image_one}
use Rattle.logging.specs.Log.{limit, Parsed, log_of}
use Rattle.logging.specs.Cut.{whole_in, cut_at}
use Rattle.logging.proofs.Cut.{fit_append, fit_whole, cut_log}
use Rattle.logging.proofs.History.{refusal_low, log_append, after_append, whole_log}
use Rattle.board.specs.Promise.{placed, kept, replay_on, Brings, unread, played, fresh_on}
use Rattle.recovery.specs.Runs.{heard, events_of, all_events, said_of, all_said, Calls, StandsFor, CallsRan}
use Rattle.recovery.specs.Runs.StandsFor.{first_still, saved}
use Rattle.recovery.proofs.Runs.{calls_bytes, stands_image, stands_newest, calls_ran}
use Rattle.board.specs.declared.Told.{Told}
use Rattle.board.specs.declared.Brought.{Brought}
use Rattle.recovery.specs.Boots.{event_codes, logged_as, logged, Boarded, Restored}
use Rattle.recovery.specs.Boots.Boarded.{begun, handed, renewed, booted}

-- a record that is one is that of its event
one_record : (rec : List ℕ) → Bytes rec → (e : Event) → read_at rec 0 ≡ Record e (length rec) → rec ≡ record_of e
one_record rec b e q =
    let w = read_whole rec 0 e (length rec) b q in
    w.bytes ∙ ap (λ (l : List ℕ). record_of e ++ l) (drop-length rec) ∙ append-nil (record_of e)

logged_one : (m : Model) (rec : List ℕ) → Bytes rec → (r : Read) → read_at rec 0 ≡ r
    → (logged_as (said_of m r (length rec)) rec ≡ log_of (heard r (length rec))) × AllFit (heard r (length rec))
logged_one m rec b (Record e n) q =
    by_test (eqb n (length rec))
    (λ t.
    let z = eqb-true n (length rec) t in
    let p : read_at rec 0 ≡ Record e (length rec) = q ∙ ap (Record e) z in
    let l = refusal_low e m in
    rw (t, lt-ltb (refusal e m) event_codes (omega arith)) (one_record rec b e p ∙ sym (append-nil (record_of e)), ((read_whole rec 0 e n b q).fits, tt {0})))
    (λ t. rw t (refl, tt {0}))
logged_one m rec b AtEnd q = (refl, tt)
logged_one m rec b CutShort q = (refl, tt)
logged_one m rec b UnknownKind q = (refl, tt)
logged_one m rec b PastEnd q = (refl, tt)

-- so the log is that of the history
logged_all : (m : Model) (recs : List (List ℕ)) → Every Bytes recs → (logged (all_said m recs) recs ≡ log_of (all_events recs)) × AllFit (all_events recs)
logged_all m [] b = (refl, tt)
logged_all m (rec ∷ recs) b =
    let o = logged_one m rec b.0 (read_at rec 0) refl in
    let i = logged_all (after (events_of rec) m) recs b.1 in
    (ap₂ (λ (x y : List ℕ). x ++ y) o.0 i.0 ∙ sym (log_append (events_of rec) (all_events recs)), fit_append (events_of rec) (all_events recs) o.1 i.1)

-- its first boot: the fresh image
pub first_boot : (out : List ℕ) {a : List ℕ} {c n : ℕ} → longest_image ≤ length out → (c, n, a) ≡ fresh_on out → Boarded (encode fresh) fresh [] [] (take n a) (take n a) []
first_boot out {a} {c} {n} h e =
    let i : List ℕ = encode fresh in
    let l = longest fresh fresh_consistent in
    let w : ◌≡◌ {A = ℕ × ℕ × List ℕ} (c, n, a) (0, length i, i ++ drop (length i) out) = rw (le-ltb (length out) (length i) (omega arith)) at e in
    let e : encode fresh ≡ take n a = sym (take_at i (drop (length i) out) (length i) refl) ∙ ap (λ (x : ℕ × ℕ × List ℕ). take x.1 x.2) (sym w) in
    subst (λ (x : List ℕ). Boarded i fresh [] [] x x []) e (begun (saved_image fresh_consistent refl))

-- with room, what was read is kept
kept_back : (m : Model) (p : Parsed) (out : List ℕ) → Consistent (after p.events m) → longest_image ≤ length out
    → kept m p out ≡ (record { code = p.code; choice = choice_kind (chosen (after p.events m)); next = choice_runs (chosen (after p.events m)); records = length p.events; bytes = p.stop; length = length (encode (after p.events m)) }, placed (after p.events m) out)
unfolding kept
kept_back m p out C h = let l = longest (after p.events m) C in rw (le-ltb (length out) (length (encode (after p.events m))) (omega arith)) refl

-- on an image of m
brings : (m : Model) → (es : List Event) → AllFit es → (k : ℕ) → k ≤ length (log_of es) → k ≤ limit → {image out : List ℕ} {t : Brought × List ℕ} → Image m image → longest_image ≤ length out
    → Brings image (take k (log_of es)) out t → t ≡ kept m (cut_at k es) out
brings m es f k h g I w (unread c R q) = absurd (refuses_not R (m, I))
brings m es f k h g {out = out} I w (played n J q) =
    let x : n ≡ m = image_one J I in
    let l = length-take k (log_of es) in
    q ∙ ap (λ (m : Model). replay_on m (take k (log_of es)) out) x ∙ rw (le-ltb limit (length (take k (log_of es))) (omega arith)) (ap (λ (p : Parsed). kept m p out) (cut_log es f k h))

-- ---- at any time the images are those of the rules' states, and the log is that of the history
module _ (first : List ℕ) {m : Model} (C : Consistent m) where
  record InStep (bs fs : List Event) (image base log : List ℕ) : Type 0 where
    present : StandsFor first (after (bs ++ fs) m) image
    at_save : StandsFor first (after bs m) base
    records : log ≡ log_of fs
    before : AllFit bs
    since : AllFit fs

  -- what comes back of such a store
  comes_back : {bs fs : List Event} {image base log : List ℕ} → InStep bs fs image base log → (k : ℕ) → k ≤ length log → k ≤ limit → {out buffer : List ℕ} {t : Brought}
      → longest_image ≤ length out → Brings base (take k log) out (t, buffer) → Restored m bs (whole_in k fs) k t buffer
  comes_back {bs} {fs} {base = base} S k h g {out} {buffer} {t} w R =
      let es : List Event = whole_in k fs in
      let n : Model = after bs m in
      let K : Consistent n = always bs m C S.before in
      let F : Brings base (take k (log_of fs)) out (t, buffer) = rw S.records at R in
      let j : k ≤ length (log_of fs) = rw S.records at h in
      let D : Consistent (after es n) = always es n K (fit_whole k fs S.since) in
      let q = brings n fs S.since k j g (stands_image S.at_save) w F ∙ kept_back n (cut_at k fs) out D w in
      let z : after es n ≡ after (bs ++ es) m = sym (after_append bs es m) in
      let i : List ℕ = encode (after es n) in
      record {
        image = ap (λ (x : Brought × List ℕ). take x.0.length x.1) q ∙ take_at i (drop (length i) out) (length i) refl ∙ ap encode z;
        choice = ap (λ (x : Brought × List ℕ). x.0.choice) q ∙ ap (λ (x : Model). choice_kind (chosen x)) z;
        next = ap (λ (x : Brought × List ℕ). x.0.next) q ∙ ap (λ (x : Model). choice_runs (chosen x)) z;
        records = ap (λ (x : Brought × List ℕ). x.0.records) q;
        bytes = ap (λ (x : Brought × List ℕ). x.0.bytes) q;
        code = ap (λ (x : Brought × List ℕ). x.0.code) q;
      }

  -- what is handed over to its present image
  runs_on : {bs fs : List Event} {image base log last : List ℕ} {recs : List (List ℕ)} {ts : List Told} → InStep bs fs image base log → Calls image recs ts last
      → CallsRan first (after (bs ++ fs) m) recs ts last
  runs_on {bs} {fs} S k = calls_ran (after (bs ++ fs) m) S.present k

  in_step : {bs fs : List Event} {image base log : List ℕ} → Boarded first m bs fs image base log → InStep bs fs image base log
  in_step (begun I) = record { present = first_still I refl; at_save = first_still I refl; records = refl; before = tt {0}; since = tt {0} }
  in_step (handed {bs = bs} {fs = fs} {last = last} {recs = recs} {ts = ts} B k) =
      let S = in_step B in
      let R = runs_on S k in
      let L = logged_all (after (bs ++ fs) m) recs (calls_bytes k) in
      let new : logged ts recs ≡ log_of (all_events recs) = ap (λ (x : List Told). logged x recs) R.answers ∙ L.0 in
      let h : after (all_events recs) (after (bs ++ fs) m) ≡ after (bs ++ (fs ++ all_events recs)) m =
      sym (after_append (bs ++ fs) (all_events recs) m) ∙ ap (λ (l : List Event). after l m) (append_assoc bs fs (all_events recs)) in
      record {
        present = subst (λ (x : Model). StandsFor first x last) h R.image;
        at_save = S.at_save;
        records = ap₂ (λ (x y : List ℕ). x ++ y) S.records new ∙ sym (log_append fs (all_events recs));
        before = S.before;
        since = fit_append fs (all_events recs) S.since L.1;
      }
  in_step (renewed {bs = bs} {fs = fs} {image = image} B) =
      let S = in_step B in
      record {
        present = subst (λ (l : List Event). StandsFor first (after l m) image) (sym (append-nil (bs ++ fs))) S.present;
        at_save = S.present;
        records = refl;
        before = fit_append bs fs S.before S.since;
        since = tt {0};
      }
  in_step (booted {bs = bs} {fs = fs} {k = k} B h g w r) =
      let S = in_step B in
      let b = comes_back S k h g w r in
      record {
        present = saved (always (bs ++ whole_in k fs) m C (fit_append bs (whole_in k fs) S.before (fit_whole k fs S.since))) b.image;
        at_save = S.at_save;
        records = ap₂ (λ (n : ℕ) (l : List ℕ). take n l) b.bytes S.records ∙ whole_log k fs;
        before = S.before;
        since = fit_whole k fs S.since;
      }

-- ---- the theorems
module _ {first : List ℕ} {m : Model} {bs fs : List Event} {image base log : List ℕ} (C : Consistent m) (life : Boarded first m bs fs image base log) where
  -- Whatever is handed over, at any time of its life: images, codes, choices and numbers are those of the rules, for the history so far.
  pub board_runs : {last : List ℕ} {recs : List (List ℕ)} {ts : List Told} → Calls image recs ts last → CallsRan first (after (bs ++ fs) m) recs ts last
  board_runs = runs_on first C (in_step first C life)

  -- And where its first image was of the newest edition, the last is what is saved of the rules' state.
  pub board_saves : encode m ≡ first → {last : List ℕ} {recs : List (List ℕ)} {ts : List Told} → Calls image recs ts last → last ≡ encode (after (all_events recs) (after (bs ++ fs) m))
  board_saves e k = stands_newest C e (board_runs k).image

  -- Whenever the power fails: the image kept, and the log cut at any byte, bring back the image of the rules' state after the events before the image, and
  -- those of the log that are whole.
  pub board_back : (k : ℕ) → k ≤ length log → k ≤ limit → {out buffer : List ℕ} {t : Brought} → longest_image ≤ length out → Brings base (take k log) out (t, buffer)
      → Restored m bs (whole_in k fs) k t buffer
  board_back = comes_back first C (in_step first C life)
