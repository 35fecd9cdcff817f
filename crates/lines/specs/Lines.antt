-- Lines of places in one array of bytes: what the contracts of join, pop and leave speak of. With P places and N lines, cell p < P holds the place
-- after p in its line, cell P + q the first place of line q, cell P + N + q the last. So a line starts at its own cell, P + q, as if that were the place before the first.
use Rattle.std.specs.Prelude.{◌≡◌, List, [], ◌∷◌, true, false, cond, Option, ℕ, zero, suc, ◌+◌, ◌<◌, eqb, length, get_or}
use Rattle.lists.specs.Lists.{none, known, among, front, rest}

-- ---- the lines of an array
-- the places after the cell c, at most n of them. (No abbrev: at a numeral n it would unfold n deep wherever it stands.)
unfoldable pub walk : ℕ → List ℕ → ℕ → List ℕ
walk zero l c = []
walk (suc n) l c = cond (eqb (get_or l c 0) none) [] (get_or l c 0 ∷ walk n l (get_or l c 0))

-- line q
abbrev pub line_of : ℕ → List ℕ → ℕ → List ℕ
line_of P l q = walk P l (P + q)

-- p stands in no line
abbrev pub Loose : ℕ → (ℕ → List ℕ) → ℕ → Type 0
Loose N ls p = (q : ℕ) → q < N → among p (ls q) ≡ false

-- ---- tidy arrays
-- the places that follow the cell c are those of xs, each below P, and the last one's cell holds e
abbrev pub Path : ℕ → List ℕ → ℕ → List ℕ → ℕ → Type 0
Path P l c [] e = get_or l c 0 ≡ e
Path P l c (x ∷ xs) e = (get_or l c 0 ≡ x) × (x < P) × Path P l x xs e

-- the last cell of a walk that starts at the cell c; so `last_cell none xs` is who is last in xs, or none
abbrev pub last_cell : ℕ → List ℕ → ℕ
last_cell c [] = c
last_cell c (x ∷ xs) = last_cell x xs

-- the array l is that of the lines ls
pub record Is (P N : ℕ) (l : List ℕ) (ls : ℕ → List ℕ) : Type 0 where
  pub whole : length l ≡ P + N + N
  pub linked : (q : ℕ) → q < N → Path P l (P + q) (ls q) none
  pub tails : (q : ℕ) → q < N → get_or l (P + N + q) 0 ≡ last_cell none (ls q)
  pub apart : (q r x : ℕ) → q < N → r < N → (q ≡ r → ⊥) → among x (ls q) ≡ true → among x (ls r) ≡ false
  pub canon : (p : ℕ) → p < P → Loose N ls p → get_or l p 0 ≡ none

-- the array is that of the lines that are read off it. (That no place stands twice in one line follows: Arrays, `once`.)
abbrev pub Tidy : ℕ → ℕ → List ℕ → Type 0
Tidy P N l = Is P N l (line_of P l)

-- ---- what an operation does
-- m is l with line q made xs, and nothing else changed. (It determines m: Callers, `turned_one`.)
pub record Turned (P N : ℕ) (l m : List ℕ) (q : ℕ) (xs : List ℕ) : Type 0 where
  pub tidy : Tidy P N m
  pub here : line_of P m q ≡ xs
  pub others : (r : ℕ) → r < N → (r ≡ q → ⊥) → line_of P m r ≡ line_of P l r

-- r, the first of line q, has left it; r is none where nobody stood there. (What a caller makes of it: Callers, `pop_none`, `pop_some`.)
pub record Popped (P N : ℕ) (l m : List ℕ) (q r : ℕ) : Type 0 where
  pub who : r ≡ front (line_of P l q)
  pub turned : Turned P N l m q (rest (line_of P l q))

-- every line is empty
pub record Clear (P N : ℕ) (l : List ℕ) : Type 0 where
  pub tidy : Tidy P N l
  pub empty : (q : ℕ) → q < N → line_of P l q ≡ []

-- the array is tidy, and a place's mark in `at` is the line in which it stands, or none
pub record Whereabouts (P N : ℕ) (l at : List ℕ) : Type 0 where
  pub tidy : Tidy P N l
  pub here : (p q : ℕ) → p < P → q < N → among p (line_of P l q) ≡ eqb (get_or at p 0) q
  pub sure : (p : ℕ) → p < P → (get_or at p 0 ≡ none → ⊥) → get_or at p 0 < N

-- who stands behind p in a list, or none
abbrev pub next_in : ℕ → List ℕ → ℕ
next_in p [] = none
next_in p (x ∷ xs) = cond (eqb x p) (front xs) (next_in p xs)

-- r is who stands behind p, in whichever line p stands, if anybody does
abbrev pub Next : ℕ → ℕ → List ℕ → ℕ → Option ℕ → Type 0
Next P N l p r = (q : ℕ) → q < N → among p (line_of P l q) ≡ true → r ≡ known (next_in p (line_of P l q))

-- the lines with line q made xs
abbrev pub upd : (ℕ → List ℕ) → ℕ → List ℕ → ℕ → List ℕ
upd ls q xs r = cond (eqb r q) xs (ls r)
