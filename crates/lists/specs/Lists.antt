-- The words about lists of places that the lines and the rules share. A place is a number; `none` stands where there is none.
use Rattle.std.specs.Prelude.{◌≡◌, List, [], ◌∷◌, Bool, true, false, cond, Option, Some, None, ℕ, zero, suc, ◌+◌, eqb}

-- no place
abbrev pub none : ℕ
none = 255

-- the place that a number stands for, if it stands for one
abbrev pub known : ℕ → Option ℕ
known x = cond (eqb x none) None (Some x)

-- o is the place that a number stands for of which P holds, if that number stands for one
abbrev pub KnownBy : (ℕ → Type 0) → Option ℕ → Type 0
KnownBy P o = (x : ℕ) × (o ≡ known x) × P x

-- 1 for yes, 0 for no
abbrev pub bit : Bool → ℕ
bit true = 1
bit false = 0

-- how often p stands in a list
abbrev pub count : ℕ → List ℕ → ℕ
count p [] = 0
count p (x ∷ l) = bit (eqb x p) + count p l

-- does it stand there
abbrev pub among : ℕ → List ℕ → Bool
among p [] = false
among p (x ∷ l) = cond (eqb x p) true (among p l)

-- no place stands there twice
abbrev pub Distinct : List ℕ → Type 0
Distinct [] = Unit {0}
Distinct (x ∷ l) = (among x l ≡ false) × Distinct l

-- the list without the first p
abbrev pub without : ℕ → List ℕ → List ℕ
without p [] = []
without p (x ∷ l) = cond (eqb x p) l (x ∷ without p l)

-- who is first, or none
abbrev pub front : List ℕ → ℕ
front [] = none
front (x ∷ l) = x

-- all but the first
abbrev pub rest : List ℕ → List ℕ
rest [] = []
rest (x ∷ l) = l

-- the first, from the front, that the test holds of, or none
abbrev pub first_of : (ℕ → Bool) → List ℕ → ℕ
first_of f [] = none
first_of f (x ∷ l) = cond (f x) x (first_of f l)

-- k, k + 1, .., n of them
abbrev pub up_from : ℕ → ℕ → List ℕ
up_from k zero = []
up_from k (suc n) = k ∷ up_from (suc k) n

-- f of 0, 1, .., n of them. (No abbrev: at a numeral n it would unfold n deep wherever it stands.)
unfoldable pub tab {ℓ} : {A : Type ℓ} → ℕ → (ℕ → A) → List A
tab zero f = []
tab (suc n) f = f zero ∷ tab n (λ k. f (suc k))

-- of how many of 0, 1, .., n of them, does the test hold
unfoldable pub tally : ℕ → (ℕ → Bool) → ℕ
tally zero f = 0
tally (suc n) f = bit (f zero) + tally n (λ k. f (suc k))

-- those of a list that the test holds of
abbrev pub only : (ℕ → Bool) → List ℕ → List ℕ
only f [] = []
only f (x ∷ l) = cond (f x) (x ∷ only f l) (only f l)
