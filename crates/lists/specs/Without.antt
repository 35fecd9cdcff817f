-- A list without one of its numbers, and how long a list is in which nobody stands twice. Assumes nothing.
use Rattle.std.specs.Prelude.{◌≡◌, refl, List, [], ◌∷◌, ◌++◌, true, false, ℕ, zero, suc, ◌≤◌, ◌<◌, eqb, ltb, length}
use Rattle.std.proofs.Common.{sym, ap, ◌∙◌, arith, eq-eqb, ne_eqb, eqb-true, ltb-true, ltb-false}
use Rattle.std.proofs.lemmas.Bool.{eqb-false}
use Rattle.lists.specs.Lists.{among, Distinct, without, front, rest}
use Rattle.lists.specs.Laws.{by_test, never, not_head, not_tail, not_cons, is_head}

pub without_none : (p : ℕ) (xs : List ℕ) → among p xs ≡ false → without p xs ≡ xs
without_none p [] h = refl
without_none p (x ∷ xs) h = rw (ne_eqb x p (not_head p x xs h)) (ap (λ (t : List ℕ). x ∷ t) (without_none p xs (not_tail p x xs h)))

pub without_at : (p : ℕ) (xs ys : List ℕ) → among p xs ≡ false → without p (xs ++ (p ∷ ys)) ≡ xs ++ ys
without_at p [] ys h = rw (eq-eqb p p refl)
without_at p (x ∷ xs) ys h = rw (ne_eqb x p (not_head p x xs h)) (ap (λ (t : List ℕ). x ∷ t) (without_at p xs ys (not_tail p x xs h)))

pub without_front : (xs : List ℕ) → without (front xs) xs ≡ rest xs
without_front [] = refl
without_front (x ∷ xs) = rw (eq-eqb x x refl)

pub without_append : (p : ℕ) (xs ys : List ℕ) → among p xs ≡ true → without p (xs ++ ys) ≡ without p xs ++ ys
without_append p [] ys h = never h refl
without_append p (x ∷ xs) ys h =
    let ih = without_append p xs ys in
    by_test (eqb x p)
    (λ e. rw e)
    (λ e. let g : among p xs ≡ true = rw e at h in rw e (ap (λ (t : List ℕ). x ∷ t) (ih g)))

pub without_behind : (p : ℕ) (xs ys : List ℕ) → among p xs ≡ false → without p (xs ++ ys) ≡ xs ++ without p ys
without_behind p [] ys h = refl
without_behind p (x ∷ xs) ys h = rw (ne_eqb x p (not_head p x xs h)) (ap (λ (t : List ℕ). x ∷ t) (without_behind p xs ys (not_tail p x xs h)))

-- ---- who stands there
-- who did not stand there
pub without_other : (p i : ℕ) (xs : List ℕ) → among i xs ≡ false → among i (without p xs) ≡ false
without_other p i [] h = refl
without_other p i (x ∷ xs) h =
    by_test (eqb x p)
    (λ e. rw e (not_tail i x xs h))
    (λ e. rw e (not_cons i x (without p xs) (not_head i x xs h) (without_other p i xs (not_tail i x xs h))))

-- p, where nobody stood twice
pub without_gone : (p : ℕ) (xs : List ℕ) → Distinct xs → among p (without p xs) ≡ false
without_gone p [] d = refl
without_gone p (x ∷ xs) d =
    by_test (eqb x p)
    (λ e. rw e (let t : x ≡ p = eqb-true x p e in rw t at d.0))
    (λ e. rw e (not_cons p x (without p xs) (eqb-false x p e) (without_gone p xs d.1)))

pub without_distinct : (p : ℕ) (xs : List ℕ) → Distinct xs → Distinct (without p xs)
without_distinct p [] d = tt
without_distinct p (x ∷ xs) d =
    by_test (eqb x p)
    (λ e. rw e d.1)
    (λ e. rw e (without_other p x xs d.0, without_distinct p xs d.1))

-- ---- how long it is
pub without_length : (p : ℕ) (xs : List ℕ) → among p xs ≡ true → length xs ≡ suc (length (without p xs))
without_length p [] h = never h refl
without_length p (x ∷ xs) h =
    by_test (eqb x p)
    (λ e. rw e)
    (λ e. rw e (ap (λ (n : ℕ). suc n) (without_length p xs (rw e at h))))

-- n holes take at most n pigeons: those of f 0, f 1, .., n of them, none twice
pub pigeons : (f : ℕ → ℕ) (n : ℕ) (xs : List ℕ) → ((x : ℕ) → among x xs ≡ true → (p : ℕ) × (p < n) × (f p ≡ x)) → Distinct xs → length xs ≤ n
pigeons f zero [] h d = omega arith
pigeons f zero (x ∷ xs) h d = let w = h x (is_head x x xs refl) in absurd (omega (arith, w.1))
pigeons f (suc n) xs h d =
    let ys = without (f n) xs in
    let shrunk : (zs : List ℕ) → ((x : ℕ) → among x zs ≡ true → among x xs ≡ true) → among (f n) zs ≡ false → (x : ℕ) → among x zs ≡ true → (p : ℕ) × (p < n) × (f p ≡ x) =
    λ zs into out x g.
    let w = h x (into x g) in
    let ne : w.0 ≡ n → ⊥ = λ e. never g (rw (sym w.2 ∙ ap f e) out) in
    (w.0, omega (arith, w.1), w.2) in
    by_test (among (f n) xs)
    (λ t.
    let e = without_length (f n) xs t in
    let k = pigeons f n ys (shrunk ys (λ x g. by_test (among x xs) (λ u. u) (λ u. never g (without_other (f n) x xs u))) (without_gone (f n) xs d)) (without_distinct (f n) xs d) in
    omega arith)
    (λ t. let k = pigeons f n xs (shrunk xs (λ x g. g) t) d in omega arith)

-- different numbers below n are at most n
pub pigeon : (n : ℕ) (xs : List ℕ) → ((i : ℕ) → n ≤ i → among i xs ≡ false) → Distinct xs → length xs ≤ n
pigeon n xs f d = pigeons (λ p. p) n xs (λ x g. by_test (ltb x n) (λ t. (x, ltb-true x n t, refl)) (λ t. never g (f x (ltb-false x n t)))) d
