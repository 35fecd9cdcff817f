-- Going along a line, from a place to the next. Assumes nothing.
use Rattle.std.specs.Prelude.{◌≡◌, refl, List, [], ◌∷◌, true, false, cond, ℕ, ◌+◌, ◌≤◌, ◌<◌, eqb, get_or}
use Rattle.std.proofs.Common.{sym, ap, ◌∙◌, eq-eqb, ne_eqb, eqb-true}
use Rattle.lists.specs.Lists.{none, among, Distinct, front, rest}
use Rattle.lists.specs.Laws.{by_test, never, not_head, not_tail, front_not}
use Rattle.lines.specs.Lines.{line_of, Path, Tidy, next_in}
use Rattle.lines.specs.Walks.{path_high, path_front}

-- the places from p on
abbrev pub on_from : ℕ → List ℕ → List ℕ
on_from p [] = []
on_from p (x ∷ xs) = cond (eqb x p) (x ∷ xs) (on_from p xs)

path_next : (P : ℕ) → P ≤ none → (l : List ℕ) (c : ℕ) (xs : List ℕ) (p : ℕ) → Path P l c xs none → among p xs ≡ true → get_or l p 0 ≡ next_in p xs
path_next P small l c [] p k h = never h refl
path_next P small l c (x ∷ xs) p k h =
    let ih = path_next P small l x xs p k.2 in
    by_test (eqb x p)
    (λ e. let z : x ≡ p = eqb-true x p e in rw e (rw (← z) (path_front P l x xs k.2)))
    (λ e. let g : among p xs ≡ true = rw e at h in rw e (ih g))

-- what cell p holds
pub after_is : {P N : ℕ} {l : List ℕ} → Tidy P N l → P ≤ none → (p q : ℕ) → q < N → among p (line_of P l q) ≡ true → get_or l p 0 ≡ next_in p (line_of P l q)
after_is {P} {N} {l} k small p q h g = path_next P small l (P + q) (line_of P l q) p (k.linked q h) g

-- who is next is in the list, or none
next_in_lem : (p : ℕ) (xs : List ℕ) (x : ℕ) → among x xs ≡ false → (x ≡ none → ⊥) → x ≡ next_in p xs → ⊥
next_in_lem p [] x h n = n
next_in_lem p (y ∷ ys) x h n =
    let ih = next_in_lem p ys x (not_tail x y ys h) n in
    by_test (eqb y p) (λ t. rw t (front_not x ys (not_tail x y ys h) n)) (λ t. rw t ih)

-- going on from the first, and from each to the next, is going along the whole line
pub from_front : (xs : List ℕ) → on_from (front xs) xs ≡ xs
from_front [] = refl
from_front (x ∷ xs) = rw (eq-eqb x x refl)

pub from_next : (p : ℕ) (xs : List ℕ) → Distinct xs → among none xs ≡ false → among p xs ≡ true → on_from (next_in p xs) xs ≡ rest (on_from p xs)
from_next p [] d n h = never h refl
from_next p (x ∷ xs) d n h =
    let ih = from_next p xs d.1 (not_tail none x xs n) in
    let ne = not_head none x xs n in
    by_test (eqb x p)
    (λ e.
    let u : next_in p (x ∷ xs) ≡ front xs = rw e in
    let v : on_from p (x ∷ xs) ≡ x ∷ xs = rw e in
    ap (λ i. on_from i (x ∷ xs)) u ∙ from_other x (front xs) xs (front_not x xs d.0 ne) ∙ from_front xs ∙ sym (ap rest v))
    (λ e.
    let g : among p xs ≡ true = rw e at h in
    let u : next_in p (x ∷ xs) ≡ next_in p xs = rw e in
    let v : on_from p (x ∷ xs) ≡ on_from p xs = rw e in
    ap (λ i. on_from i (x ∷ xs)) u ∙ from_other x (next_in p xs) xs (next_in_lem p xs x d.0 ne) ∙ ih g ∙ sym (ap rest v))
  where
    from_other : (x y : ℕ) (xs : List ℕ) → (x ≡ y → ⊥) → on_from y (x ∷ xs) ≡ on_from y xs
    from_other x y xs k = rw (ne_eqb x y k)

-- who is next, and whether somebody is, from the places that are left
pub next_front : (p : ℕ) (xs : List ℕ) → next_in p xs ≡ front (rest (on_from p xs))
next_front p [] = refl
next_front p (x ∷ xs) = let ih = next_front p xs in by_test (eqb x p) (λ e. rw e) (λ e. rw e ih)

pub on_among : (p : ℕ) (xs : List ℕ) → p ≡ front (on_from p xs) → (p ≡ none → ⊥) → among p xs ≡ true
on_among p [] e n = absurd (n e)
on_among p (x ∷ xs) e n = let ih = on_among p xs in by_test (eqb x p) (λ t. rw t) (λ t. rw t (ih (rw t at e) n))

pub on_none : (p : ℕ) (xs : List ℕ) → among p xs ≡ false → on_from p xs ≡ []
on_none p [] h = refl
on_none p (x ∷ xs) h = rw (ne_eqb x p (not_head p x xs h)) (on_none p xs (not_tail p x xs h))

-- no line holds who is no place
pub no_place : {P N : ℕ} {l : List ℕ} → Tidy P N l → P ≤ none → (i q : ℕ) → q < N → P ≤ i → among i (line_of P l q) ≡ false
no_place {P} {N} {l} k small i q h g = path_high P l (P + q) (line_of P l q) none i (k.linked q h) g
