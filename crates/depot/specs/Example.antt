-- THE DOCUMENT'S OWN TEXT (document 02, P7): for document 01's 43-byte image and an empty log. It is computed, and whoever meets the promise has it; and so are
-- texts with each of the other words, and the one line for nothing at all.
-- Here stand the words; the laws of them stand in proofs/Example.antt.
use Rattle.std.specs.Prelude.{List, [], ◌∷◌, ℕ}

abbrev pub image : List ℕ
image =
    1 ∷ 1 ∷ 0 ∷ 2 ∷ 1 ∷ 0 ∷ 43 ∷ 0
    ∷ 0 ∷ 0 ∷ 17 ∷ 0
    ∷ 1 ∷ 1 ∷ 30 ∷ 0
    ∷ 1
    ∷ 1 ∷ 255 ∷ 0 ∷ 0 ∷ 0 ∷ 0 ∷ 0 ∷ 255 ∷ 0 ∷ 0 ∷ 0 ∷ 0 ∷ 0
    ∷ 2 ∷ 255 ∷ 0 ∷ 0 ∷ 0 ∷ 0 ∷ 0 ∷ 255 ∷ 0 ∷ 0 ∷ 0 ∷ 0 ∷ 0 ∷ []
