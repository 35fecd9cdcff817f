-- No number is given that somebody has or still holds. So a number in a live thread's answer never comes to mean another thread than the one that answered, as
-- long as the answer stands.
-- Here stand the words; the laws of them stand in proofs/Unheld.antt.
use Rattle.std.specs.Prelude.{ℕ, List, [], ◌∷◌}
use Rattle.rules.specs.Model.{Model}
use Rattle.rules.specs.Rules.{next}
use Rattle.rules.specs.declared.Event.{Event}
use Rattle.order.specs.Places.{HeldAt}

-- ---- a history

-- after each event of it the answer at p names n: so the answer came with the first of them or before, and stands
abbrev pub HeldOn : ℕ → ℕ → List Event → Model → Type 0
HeldOn p n [] m = Unit {0}
HeldOn p n (e ∷ es) m = HeldAt (next e m) p n × HeldOn p n es (next e m)
