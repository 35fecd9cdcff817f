-- What the promise of load comes to: 0 for the images of consistent states and for nothing else, the state that was saved, and one answer for any bytes.
-- Here stand the words; the laws of them stand in proofs/Accepts.antt.
use Rattle.std.specs.Prelude.{List, Bool, true, ℕ}
use Rattle.rules.specs.Model.{Model}
use Rattle.loading.specs.Loads.{ImageBy}

-- the bytes are, in some known edition, the image of some consistent model that it can hold
abbrev pub IsImageBy : Bool → List ℕ → Type 0
IsImageBy strict s = (m : Model) × ImageBy strict m s

abbrev pub IsImage : List ℕ → Type 0
IsImage s = IsImageBy true s
