-- Event 4, reply: the replier goes to the back of ready, and the one that is answered runs at once.
use Rattle.std.specs.Prelude.{◌≡◌, refl, List, Result, Ok, Err, Bool, true, false, cond, not, ◌&&◌, ℕ, ◌^◌, ◌<◌, eqb, length, get_or}
use Rattle.std.proofs.Common.{sym, ap, ap₂, ◌∙◌, arith, length-set}
use Rattle.lists.specs.Lists.{tab}
use Rattle.lists.specs.Tables.{length_tab}
use Rattle.rules.specs.Model.{places, Running, Ready, Awaiting, Thread, thread}
use Rattle.rules.specs.Rules.{mine, stands, told, readied, reply_to, reply, awaits_at, not_awaiting, refusal}
use Rattle.rules.specs.Values.{nobody, refusal_code}
use Rattle.rules.specs.declared.Number.{Number}
use Rattle.rules.specs.declared.Place.{Place}
use Rattle.rules.specs.declared.Refusal.{Refusal}
use Rattle.rules.specs.declared.Event.TheVariants.{Reply}
use Rattle.table.specs.Cells.{cell, thread_of, model_of, shown, Stands, running}
use Rattle.table.specs.Rows.{thread_at}
use Rattle.table.specs.Stores.{awaits_of}
use Rattle.table.specs.declared.Desk.{Desk}
use Rattle.events.specs.declared.Outcome.{Outcome}
use Rattle.verbs.specs.Steps.{Steps, Turns, changing, then, turns, twice}
use Rattle.events.specs.Events.{Did, answered, refused, done, word_fits}
use Rattle.verbs.specs.Caller.{mine_is}
use Rattle.verbs.specs.Address.{CallsOn, met_place, Addressed, refused_not}

module _ {d : Desk} {b w l : List ℕ} {n p : ℕ} (k : CallsOn d b w l n p) {me : ℕ} (own : me ≡ get_or b (cell 0 d.running.0) 0) where
  mine_me : mine (shown d b w l) ≡ me
  mine_me = mine_is k.stands k.busy ∙ sym own

  looked : (x : ℕ) → reply n x (shown d b w l) ≡ reply_to p me x (shown d b w l)
  looked x = ap₂ (λ (p me : ℕ). reply_to p me x (shown d b w l)) k.at mine_me

  pub replied : {b₁ w₁ l₁ b₂ w₂ b₃ w₃ : List ℕ} {e : Desk} {x : ℕ} → Steps b w l b₁ w₁ l₁ (readied d.running.0) → Steps b₁ w₁ l₁ b₂ w₂ l₁ (changing p (told 0 me x)) → Steps b₂ w₂ l₁ b₃ w₃ l₁ (changing p (stands Running nobody 0))
      → e ≡ running p d → Turns d b w l e b₃ w₃ l₁ (reply n x)
  replied {x = x} r s t z =
      let m = readied d.running.0 (model_of d.last.0 p b w l) in
      let h = met_place k in
      let v = length_tab places (thread_of b w) in
      let i : length m.threads ≡ places = length-set (tab places (thread_of b w)) d.running.0 (stands Ready nobody 0 (thread (model_of d.last.0 p b w l) d.running.0)) ∙ v in
      turns (reply n x) (then r (then s t)) z (twice (told 0 me x) (stands Running nobody 0) m p (omega arith) ∙ sym (looked x))

  -- does it await the caller's reply
  pub awaited : not_awaiting (shown d b w l) n ≡ not (awaits_of b p me)
  awaited =
      let m = shown d b w l in
      ap₂ (λ (q s : ℕ). not (awaits_at q s m)) k.at mine_me ∙ ap (λ (t : Thread). not (eqb t.standing Awaiting && eqb t.partner me)) (thread_at d.last.0 d.running.0 b w l p (met_place k))

-- ---- the event

module _ {d : Desk} {b w l : List ℕ} (k : Stands d b w l) (n : Number) (x : ℕ) (short : x < 2 ^ 32) {r : Result Place Refusal} (a : Addressed d b w l n.0 r) where
  pub reply_not : {f : Refusal} → r ≡ Err f → Did d b w l (Reply n x) (answered (refusal_code f) d) b w l
  reply_not {f} z = refused k (Reply n x) (word_fits short) (refusal_code f) (refused_not f) (a.not z _) refl refl

  module _ {p : Place} (z : r ≡ Ok p) {me : ℕ} (own : me ≡ get_or b (cell 0 d.running.0) 0) {t : Bool} (h : t ≡ awaits_of b p.0 me) where
    code : refusal (Reply n x) (shown d b w l) ≡ cond (not t) 5 0
    code = a.past z _ ∙ ap (λ (y : Bool). cond y 5 0) (awaited (a.calls z) own ∙ ap not (sym h))

    pub reply_5 : t ≡ false → {o : Outcome} → o ≡ answered 5 d → Did d b w l (Reply n x) o b w l
    reply_5 y = refused k (Reply n x) (word_fits short) 5 (omega arith) (code ∙ rw y) refl

    pub reply_0 : t ≡ true → {e : Desk} {b' w' l' : List ℕ} → Turns d b w l e b' w' l' (reply n.0 x) → {o : Outcome} → o ≡ answered 0 e → Did d b w l (Reply n x) o b' w' l'
    reply_0 y u = done k (Reply n x) (word_fits short) (code ∙ rw y) refl (λ p. refl) u
