-- The promises, from what load, the event, replay and save have answered. Assumes nothing.
use Rattle.std.specs.Prelude.{◌≡◌, ◌≢◌, List, true, ℕ, ◌+◌, ◌≤◌, ◌<◌, eqb, length}
use Rattle.std.proofs.Math.Path.{refl}
use Rattle.std.proofs.Common.{sym, ap, ◌∙◌, arith}
use borrow.Author.Tests.{eq-eqb, ne_eqb, lt-ltb, le-ltb}
use Rattle.rules.specs.Values.{choice_kind, choice_runs}
use Rattle.rules.specs.Model.{Model}
use Rattle.rules.specs.Rules.{Outcome, outcome, fresh, after, choice}
use Rattle.rules.specs.declared.Event.{Event}
use Rattle.rules.specs.declared.Choice.{Choice}
use Rattle.rules.specs.declared.Choice.TheVariants.{Halt}
use Rattle.nucleus.specs.View.{view, Consists, Shows}
use Rattle.nucleus.specs.Answers.{Meets}
use Rattle.nucleus.specs.declared.State.{State}
use Rattle.nucleus.specs.declared.Reply.{Reply}
use Rattle.saving.specs.Format.{encode}
use Rattle.saving.specs.Editions.{known_few}
use Rattle.saving.specs.Longest.{longest_image}
use Rattle.saving.proofs.Longest.{longest, longest_as}
use Rattle.saving.specs.Save.{Saves, inconsistent, short, saved}
use Rattle.loading.specs.Loads.{Loads}
use Rattle.loading.proofs.Accepts.{refuses_of, accepted_of}
use Rattle.loading.specs.declared.Loaded.{Loaded}
use Rattle.updating.specs.Updates.{Updates}
use Rattle.updating.proofs.Updates.{update_refuses, update_takes}
use Rattle.image.specs.Locates.{Locates, spotted, missing, unread as unseen}
use Rattle.image.specs.Locating.{locate_within}
use Rattle.journal.specs.Format.{read_at}
use Rattle.journal.specs.declared.Read.{Read}
use Rattle.journal.specs.declared.Read.TheVariants.{Record}
use Rattle.logging.specs.Log.{limit, records_in}
use Rattle.logging.specs.Promise.{Came, Replays, inconsistent as torn, too_long, came}
use Rattle.logging.specs.declared.Replayed.{Replayed}
use Rattle.logging.specs.Reading.{Stops}
use Rattle.logging.specs.Reading.Stops.{at_end, cut_short, unknown, past_end}
use Rattle.board.specs.Promise.{placed, declined, acted, bad_code, taken, step_on, Boards, unloaded, stepped, unplayed, kept, replay_on, Brings, unread, played, fresh_on, uncarried, carried_on, Carries, untaken, took_over}
use Rattle.board.specs.declared.Told.{Told}
use Rattle.board.specs.declared.Brought.{Brought}
use Rattle.board.specs.declared.Carried.{Carried}

-- ---- what the save of a consistent state comes to
pub record Tight (m : Model) (before a : List ℕ) : Type 0 where
  pub room : length before < length (encode m)
  pub same : a ≡ before

pub record Put (m : Model) (before : List ℕ) (n : ℕ) (a : List ℕ) : Type 0 where
  pub room : length (encode m) ≤ length before
  pub size : n ≡ length (encode m)
  pub bytes : a ≡ placed m before

pub save_tight : {s : State} {m : Model} {before a : List ℕ} {c n : ℕ} → Shows s m → Saves s before c n a → c ≢ 0 → Tight m before a
save_tight S (inconsistent k g) z = absurd (k S.consists)
save_tight S (short k h g) z = record { room = rw S.seen at h; same = g.bytes_are }
save_tight S (saved k h g) z = absurd (z g.code_is)

pub save_put : {s : State} {m : Model} {before a : List ℕ} {c n : ℕ} → Shows s m → Saves s before c n a → c ≡ 0 → Put m before n a
save_put S (inconsistent k g) z = absurd (k S.consists)
save_put S (short k h g) z = let e = g.code_is in absurd (omega arith)
save_put S (saved k h g) z = record { room = rw S.seen at h; size = rw S.seen at g.length_is; bytes = rw S.seen at g.bytes_are }

-- and its length fits in two bytes, whatever came of it
pub save_short : {s : State} {m : Model} {before a : List ℕ} {c n : ℕ} → Shows s m → Saves s before c n a → n ≤ longest_image
save_short S (inconsistent k g) = let e = g.length_is in omega arith
save_short S (short k h g) = let e = g.length_is in omega arith
save_short {s} S (saved k h g) = let e = g.length_is in let l = longest (view s) k.consistent in omega arith

-- ---- the event
module _ (m : Model) (o : Outcome) (out : List ℕ) {r : Reply} (M : Meets o r) where
  code_zero : r.code ≡ 0 → eqb o.code 0 ≡ true
  code_zero z = eq-eqb _ _ (sym M.code ∙ z)

  pub act_refused : {t : Told} {x : Choice} → r.code ≢ 0 → x ≡ choice m → t ≡ declined r.code x → (t, out) ≡ acted m o out
  unfolding acted
  act_refused z k h = rw (ne_eqb o.code 0 (λ q. z (M.code ∙ q)), h, k, M.code) refl

  module _ {a : List ℕ} {c n : ℕ} (z : r.code ≡ 0) (K : Saves r.state out c n a) where
    pub act_short : {t : Told} {x : Choice} → c ≢ 0 → x ≡ choice m → t ≡ declined 7 x → (t, a) ≡ acted m o out
    unfolding acted
    act_short y k h = let p = save_tight M.state K y in rw (code_zero z, lt-ltb (length out) (length (encode o.state)) p.room, h, k, p.same) refl

    pub act_done : {x y l : ℕ} → c ≡ 0 → x ≡ choice_kind r.choice → y ≡ choice_runs r.choice → l ≡ n
        → (record { code = 0; choice = x; next = y; number = r.number.0; length = l }, a) ≡ acted m o out
    unfolding acted
    act_done w f g h =
        let p = save_put M.state K w in
        rw (code_zero z, le-ltb (length out) (length (encode o.state)) p.room, f, g, h, M.choice, M.number, p.size, p.bytes) refl

-- ---- the record
bad_taken : (m : Model) {r : Read} (size : ℕ) (out : List ℕ) → Stops r → (declined (bad_code r) (choice m), out) ≡ taken m r size out
bad_taken m size out at_end = refl
bad_taken m size out cut_short = refl
bad_taken m size out unknown = refl
bad_taken m size out past_end = refl

module _ (m : Model) (rec out : List ℕ) {r : Read} (R : r ≡ read_at rec 0) where
  pub take_bad : {t : Told} {x : Choice} {b : ℕ} → Stops r → b ≡ bad_code r → x ≡ choice m → t ≡ declined b x → (t, out) ≡ step_on m rec out
  take_bad Z f g h = rw (h, f, g) (bad_taken m (length rec) out Z) ∙ ap (λ (z : Read). taken m z (length rec) out) R

  module _ {e : Event} {n : ℕ} (E : r ≡ Record e n) where
    record_there : taken m (Record e n) (length rec) out ≡ step_on m rec out
    record_there = ap (λ (z : Read). taken m z (length rec) out) (sym E ∙ R)

    pub take_more : {t : Told} {x : Choice} → n ≢ length rec → x ≡ choice m → t ≡ declined 12 x → (t, out) ≡ step_on m rec out
    take_more k g h = rw (h, g) (rw (ne_eqb n (length rec) k) at record_there)

    pub take_one : {t : Told × List ℕ} → n ≡ length rec → t ≡ acted m (outcome e m) out → t ≡ step_on m rec out
    take_one k h = h ∙ rw (eq-eqb n (length rec) k) at record_there

-- ---- the image
module _ {image : List ℕ} {l : Loaded} (L : Loads image l) where
  pub step_refused : {rec out : List ℕ} {t : Told} → l.code ≢ 0 → t ≡ declined l.code Halt → Boards image rec out (t, out)
  step_refused {out = out} k h = unloaded l.code (refuses_of L k) (ap (λ (z : Told). (z, out)) h)

  pub load_holds : l.code ≡ 0 → Consists l.state
  load_holds z = (accepted_of L z).consists

  pub step_taken : {rec out : List ℕ} {t : Told × List ℕ} → l.code ≡ 0 → t ≡ step_on (view l.state) rec out → Boards image rec out t
  step_taken z h = let A = accepted_of L z in stepped (view l.state) A.image h

-- ---- the fresh image
pub fresh_saved : {s : State} {out a : List ℕ} {c n : ℕ} → Shows s fresh → Saves s out c n a → (c, n, a) ≡ fresh_on out
fresh_saved S (inconsistent k g) = absurd (k S.consists)
fresh_saved {out = out} S (short k h g) = rw (lt-ltb (length out) (length (encode fresh)) (rw S.seen at h), g.code_is, g.length_is, g.bytes_are) refl
fresh_saved {out = out} S (saved k h g) = rw (le-ltb (length out) (length (encode fresh)) (rw S.seen at h), g.code_is, g.length_is, g.bytes_are, S.seen) refl

-- ---- the log
module _ (s : State) (log out : List ℕ) where
  pub play_long : {t : Brought} {x : Choice} → limit < length log → x ≡ choice (view s) → t ≡ unplayed 11 x → (t, out) ≡ replay_on (view s) log out
  play_long h g f = rw (lt-ltb limit (length log) h, f, g) refl

  module _ {r : Replayed} (k : Consists s) (h : length log ≤ limit) (R : Replays s log r) where
    plays_come : Came (view s) (records_in log 0) r
    plays_come = come R
      where
        come : Replays s log r → Came (view s) (records_in log 0) r
        come (torn n a) = absurd (n k)
        come (too_long l g a) = absurd (omega arith)
        come (came l g a) = a

    pub plays_shows : Shows r.state (after (records_in log 0).events (view s))
    plays_shows = plays_come.state

    module _ {a : List ℕ} {c n : ℕ} (K : Saves r.state out c n a) where
      pub play_short : {t : Brought} {x : Choice} → c ≢ 0 → x ≡ choice (view s) → t ≡ unplayed 7 x → (t, a) ≡ replay_on (view s) log out
      unfolding kept
      play_short y g f =
          let p = save_tight plays_shows K y in
          rw (le-ltb limit (length log) h, lt-ltb (length out) (length (encode (after (records_in log 0).events (view s)))) p.room, f, g, p.same) refl

      pub play_done : {x y l : ℕ} → c ≡ 0 → x ≡ choice_kind r.choice → y ≡ choice_runs r.choice → l ≡ n
          → (record { code = r.code; choice = x; next = y; records = r.records; bytes = r.bytes; length = l }, a) ≡ replay_on (view s) log out
      unfolding kept
      play_done w f g e =
          let p = save_put plays_shows K w in
          let z = plays_come in
          rw (le-ltb limit (length log) h, le-ltb (length out) (length (encode (after (records_in log 0).events (view s)))) p.room, f, g, e, z.code, z.choice, z.records, z.bytes, p.size, p.bytes) refl

module _ {image : List ℕ} {l : Loaded} (L : Loads image l) where
  pub bring_refused : {log out : List ℕ} {t : Brought} → l.code ≢ 0 → t ≡ unplayed l.code Halt → Brings image log out (t, out)
  bring_refused {out = out} k h = unread l.code (refuses_of L k) (ap (λ (z : Brought). (z, out)) h)

  pub bring_played : {log out : List ℕ} {t : Brought × List ℕ} → l.code ≡ 0 → t ≡ replay_on (view l.state) log out → Brings image log out t
  bring_played z h = let A = accepted_of L z in played (view l.state) A.image h

-- ---- the update
module _ (s : State) (k : Consists s) (out : List ℕ) {x : Choice} (e : x ≡ choice (view s)) {a : List ℕ} {c n : ℕ} (K : Saves s out c n a) where
  itself : Shows s (view s)
  itself = record { consists = k; seen = refl }

  pub carry_short : {t : Carried} → c ≢ 0 → t ≡ uncarried 7 x → (t, a) ≡ carried_on (view s) out
  unfolding carried_on
  carry_short y f = let p = save_tight itself K y in rw (lt-ltb (length out) (length (encode (view s))) p.room, f, e, p.same) refl

  pub carry_done : {y z l : ℕ} → c ≡ 0 → y ≡ choice_kind x → z ≡ choice_runs x → l ≡ n → (record { code = 0; choice = y; next = z; length = l }, a) ≡ carried_on (view s) out
  unfolding carried_on
  carry_done w f g h = let p = save_put itself K w in rw (le-ltb (length out) (length (encode (view s))) p.room, f, g, h, e, p.size, p.bytes) refl

  pub carry_narrow : n ≤ longest_image
  carry_narrow = save_short itself K

module _ {image : List ℕ} {l : Loaded} (U : Updates image l) where
  pub carry_refused : {out : List ℕ} {t : Carried} → l.code ≢ 0 → t ≡ uncarried l.code Halt → Carries image out (t, out)
  carry_refused {out} k h = untaken l.code (update_refuses U k) (ap (λ (z : Carried). (z, out)) h)

  pub carry_holds : l.code ≡ 0 → Consists l.state
  carry_holds z = ((update_takes U).0 z).2.consists

  pub carry_taken : {out : List ℕ} {t : Carried × List ℕ} → l.code ≡ 0 → t ≡ carried_on (view l.state) out → Carries image out t
  carry_taken {out} z h = let v = (update_takes U).0 z in took_over v.0 v.1 (h ∙ ap (λ (m : Model). carried_on m out) v.2.seen)

-- ---- a part
-- offset and length fit in two bytes
pub locate_short : {s : List ℕ} {n c o l : ℕ} → Locates s n c o l → o + l ≤ longest_image
locate_short (spotted F z) = let w = locate_within (spotted F z) in let e = ap length F.image.bytes in let k = longest_as F.row F.m (known_few F.image.known) F.image.consistent.old in omega arith
locate_short (missing A z p q) = omega arith
locate_short (unseen R p q) = omega arith
