-- Ready, while an event acts: what stays of it, in its order, and behind that those who join.
-- Here stand the words; the laws of them stand in proofs/Grown.antt.
use Rattle.std.specs.Prelude.{ℕ, ◌≡◌, List, [], ◌∷◌, ◌++◌, true, false}
use Rattle.lists.specs.Lists.{among}

-- ---- the words of the theorem

-- kept is what stays of old, in old's order: each place of old stays or goes
pub data Remains : List ℕ → List ℕ → Type 0 where
  nothing : Remains [] []
  stays : {p : ℕ} {old kept : List ℕ} → Remains old kept → Remains (p ∷ old) (p ∷ kept)
  goes : {p : ℕ} {old kept : List ℕ} → Remains old kept → Remains (p ∷ old) kept

-- new is what stays of old, and behind it those who join. None of them was in old: nobody leaves ready and joins it again in one event.
pub record Grown (old new : List ℕ) : Type 0 where
  pub kept : List ℕ
  pub joined : List ℕ
  pub remains : Remains old kept
  pub behind : new ≡ kept ++ joined
  pub newcomers : (p : ℕ) → among p joined ≡ true → among p old ≡ false
