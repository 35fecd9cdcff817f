-- A fresh nucleus is consistent, and every event, accepted or refused, keeps a consistent nucleus consistent: so does every history.
-- Here stand the words; the laws of them stand in proofs/Keeps.antt.
use Rattle.std.specs.Prelude.{List, [], ◌∷◌}
use Rattle.rules.specs.Consistent.{Fits}
use Rattle.rules.specs.declared.Event.{Event}

-- ---- every history
abbrev pub AllFit : List Event → Type 0
AllFit [] = Unit {0}
AllFit (e ∷ es) = Fits e × AllFit es
