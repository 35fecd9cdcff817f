-- How often a place stands in a list, and what that says of whether it stands there. Assumes nothing.
use Rattle.std.specs.Prelude.{◌≡◌, refl, List, [], ◌∷◌, ◌++◌, true, false, ℕ, suc, ◌+◌, ◌≤◌, eqb}
use Rattle.std.proofs.Common.{sym, ap, arith, eq-eqb, ne_eqb, eqb-true}
use Rattle.lists.specs.Lists.{bit, count, among, Distinct, without}
use Rattle.lists.specs.Laws.{by_test, never, not_head, not_tail}

pub count_append : (s : ℕ) (xs ys : List ℕ) → count s (xs ++ ys) ≡ count s xs + count s ys
count_append s [] ys = omega arith
count_append s (x ∷ xs) ys = let h = count_append s xs ys in omega arith

pub count_self : (p : ℕ) (xs : List ℕ) → count p (p ∷ xs) ≡ suc (count p xs)
count_self p xs = rw (eq-eqb p p refl) (omega arith)

pub count_past : (s p : ℕ) (xs : List ℕ) → (s ≡ p → ⊥) → count s (p ∷ xs) ≡ count s xs
count_past s p xs n = rw (ne_eqb p s (λ e. n (sym e))) (omega arith)

-- ---- where the first p is taken out
pub without_past : (s p : ℕ) (xs : List ℕ) → (s ≡ p → ⊥) → count s (without p xs) ≡ count s xs
without_past s p [] n = refl
without_past s p (x ∷ xs) n =
    let ih = without_past s p xs n in
    by_test (eqb x p)
    (λ e. let z : x ≡ p = eqb-true x p e in rw (e, z) (sym (count_past s p xs n)))
    (λ e. rw e (ap (λ (c : ℕ). bit (eqb x s) + c) ih))

pub without_self : (p : ℕ) (xs : List ℕ) → 1 ≤ count p xs → suc (count p (without p xs)) ≡ count p xs
without_self p [] h = absurd (omega arith)
without_self p (x ∷ xs) h =
    let ih = without_self p xs in
    by_test (eqb x p)
    (λ e. rw e (omega arith))
    (λ e.
    let g : 0 + count p xs ≡ count p (x ∷ xs) = rw e in
    let i = ih (omega arith) in
    rw (e, e) (omega arith))

-- ---- it stands there, or not
pub none_among : (p : ℕ) (xs : List ℕ) → count p xs ≡ 0 → among p xs ≡ false
none_among p [] e = refl
none_among p (x ∷ xs) e =
    by_test (eqb x p)
    (λ y. let z : 1 + count p xs ≡ 0 = rw y at e in absurd (omega arith))
    (λ y. rw y (none_among p xs (let z : 0 + count p xs ≡ 0 = rw y at e in omega arith)))

pub among_none : (p : ℕ) (xs : List ℕ) → among p xs ≡ false → count p xs ≡ 0
among_none p [] h = refl
among_none p (x ∷ xs) h = let i = among_none p xs (not_tail p x xs h) in rw (ne_eqb x p (not_head p x xs h)) (omega arith)

pub some_among : (p : ℕ) (xs : List ℕ) → 1 ≤ count p xs → among p xs ≡ true
some_among p xs h = by_test (among p xs) (λ t. t) (λ t. let e = among_none p xs t in absurd (omega arith))

pub among_some : (p : ℕ) (xs : List ℕ) → among p xs ≡ true → 1 ≤ count p xs
among_some p [] h = never h refl
among_some p (x ∷ xs) h =
    let ih = among_some p xs in
    by_test (eqb x p) (λ e. rw e (omega arith)) (λ e. let g : among p xs ≡ true = rw e at h in let i = ih g in rw e (omega arith))

-- where nobody stands twice, a count is a test
pub distinct_count : (p : ℕ) (xs : List ℕ) → Distinct xs → count p xs ≡ bit (among p xs)
distinct_count p [] d = refl
distinct_count p (x ∷ xs) d =
    let ih = distinct_count p xs d.1 in
    by_test (eqb x p)
    (λ e. let z : x ≡ p = eqb-true x p e in let g = among_none x xs d.0 in let i : count p xs ≡ 0 = rw z at g in rw e (omega arith))
    (λ e. rw e (omega arith))

-- and who stands there at most once, each of them, stand there distinct
pub count_distinct : (xs : List ℕ) → ((p : ℕ) → count p xs ≤ 1) → Distinct xs
count_distinct [] h = tt
count_distinct (x ∷ xs) h = (
  none_among x xs (let a = h x in let b = count_self x xs in omega arith),
  count_distinct xs (λ p. let a = h p in omega arith),
)
