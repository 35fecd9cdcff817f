-- EVERY TURN COMES, in the code (demand 2): `turn_comes` of the rules, said of a chain of replies of `State::step`.
-- Here stand the words; the laws of them stand in proofs/Turns.antt.
use Rattle.std.specs.Prelude.{◌≡◌, List, ◌∷◌, true, ℕ, suc}
use Rattle.rules.specs.Model.{Model}
use Rattle.rules.specs.Rules.{place_of, not_live}
use Rattle.rules.specs.declared.Number.{Number}
use Rattle.rules.specs.declared.Event.{Event}
use Rattle.rules.specs.declared.Event.TheVariants.{End}
use Rattle.rules.specs.declared.Choice.TheVariants.{Run}
use Rattle.order.specs.EndFamily.{Of}
use Rattle.nucleus.specs.View.{view}
use Rattle.nucleus.specs.declared.Reply.{Reply}

-- From m, the reply to the event behind i others is the turn of the thread n: it says to run n; or it is that of an end which is done, of a thread in whose
-- family n is, and nobody has the number n now.
pub data Turn (n : ℕ) : Model → ℕ → List Event → List Reply → Type 0 where
  runs : {m : Model} {e : Event} {es : List Event} {r : Reply} {rs : List Reply} → r.choice ≡ Run (record { 0 = n }) → Turn n m 0 (e ∷ es) (r ∷ rs)
  ended : {m : Model} {t : Number} {es : List Event} {r : Reply} {rs : List Reply} → Of m (place_of m t.0) (place_of m n) → r.code ≡ 0 → not_live (view r.state) n ≡ true
      → Turn n m 0 (End t ∷ es) (r ∷ rs)
  later : {m : Model} {i : ℕ} {e : Event} {es : List Event} {r : Reply} {rs : List Reply} → Turn n (view r.state) i es rs → Turn n m (suc i) (e ∷ es) (r ∷ rs)
