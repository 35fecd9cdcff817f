-- What the inner functions tell one another, and what their loops keep: shaped for the proofs. No public contract speaks of it.
use Rattle.std.specs.Prelude.{◌≡◌, List, [], ◌∷◌, ◌++◌, true, false, cond, ℕ, suc, ◌+◌, ◌<◌, eqb, length, get_or}
use Rattle.lists.specs.Lists.{none, among}
use Rattle.lines.specs.Lines.{line_of, Loose, Path, last_cell}

-- ---- the search for p
-- p stands in line q, behind the cell c
pub record Behind (P : ℕ) (l : List ℕ) (q c p : ℕ) : Type 0 where
  pub fore : List ℕ
  pub aft : List ℕ
  pub split : line_of P l q ≡ fore ++ (p ∷ aft)
  pub cell : c ≡ last_cell (P + q) fore

-- a walk along line q has come to the cell c, and did not meet p
pub record Walked (P : ℕ) (l : List ℕ) (q p c : ℕ) : Type 0 where
  pub fore : List ℕ
  pub aft : List ℕ
  pub split : line_of P l q ≡ fore ++ aft
  pub cell : c ≡ last_cell (P + q) fore
  pub ahead : Path P l c aft none
  pub missed : among p fore ≡ false

-- ---- the test whether an array is tidy
-- how many places have no mark
abbrev pub bare : List ℕ → ℕ
bare [] = 0
bare (x ∷ s) = cond (eqb x none) (suc (bare s)) (bare s)

-- a place's mark in s is that one of the first n lines in which it stands, or none
abbrev pub Marks : ℕ → List ℕ → ℕ → (ℕ → List ℕ) → Type 0
Marks P s n ls = (p : ℕ) → p < P → (get_or s p 0 ≡ none → Loose n ls p) × ((get_or s p 0 ≡ none → ⊥) → (get_or s p 0 < n) × (among p (ls (get_or s p 0)) ≡ true))

-- the first q lines are good, and the marks s theirs
pub record DoneUpTo (P N : ℕ) (l s : List ℕ) (q : ℕ) : Type 0 where
  pub ls : ℕ → List ℕ
  pub room : length s ≡ P
  pub linked : (r : ℕ) → r < q → Path P l (P + r) (ls r) none
  pub tails : (r : ℕ) → r < q → get_or l (P + N + r) 0 ≡ last_cell none (ls r)
  pub apart : (a r x : ℕ) → a < q → r < q → (a ≡ r → ⊥) → among x (ls a) ≡ true → among x (ls r) ≡ false
  pub marks : Marks P s q ls

-- and line q is good as far as the cell c
pub record Scan (P N : ℕ) (l s : List ℕ) (q c : ℕ) : Type 0 where
  pub ls : ℕ → List ℕ
  pub room : length s ≡ P
  pub linked : (r : ℕ) → r < q → Path P l (P + r) (ls r) none
  pub tails : (r : ℕ) → r < q → get_or l (P + N + r) 0 ≡ last_cell none (ls r)
  pub apart : (a r x : ℕ) → a < suc q → r < suc q → (a ≡ r → ⊥) → among x (ls a) ≡ true → among x (ls r) ≡ false
  pub marks : Marks P s (suc q) ls
  pub upto : Path P l (P + q) (ls q) (get_or l c 0)
  pub cell : c ≡ last_cell (P + q) (ls q)
