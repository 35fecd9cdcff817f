-- The numbers from k on, and the first of a list that a test holds of. Assumes nothing.
use Rattle.std.specs.Prelude.{◌≡◌, refl, List, [], ◌∷◌, Bool, true, false, cond, ℕ, zero, suc, ◌+◌, ◌-◌, ◌≤◌, ◌<◌, eqb, length}
use Rattle.std.proofs.Common.{ap, ◌∙◌, sym, subst, arith, eqb-true}
use Rattle.std.proofs.lemmas.Bool.{eqb-false}
use Rattle.lists.specs.Lists.{none, count, among, Distinct, first_of, up_from}
use Rattle.lists.specs.Laws.{by_test, never, not_cons}
use Rattle.lists.specs.Counts.{count_self, count_past}

-- ---- the numbers from k on
pub up_from_length : (k n : ℕ) → length (up_from k n) ≡ n
up_from_length k zero = refl
up_from_length k (suc n) = ap (λ (x : ℕ). suc x) (up_from_length (suc k) n)

-- from p on, for a loop that goes up to n
pub up_from_step : (n p : ℕ) → p < n → up_from p (n - p) ≡ p ∷ up_from (p + 1) (n - (p + 1))
up_from_step n p h =
    let e : n - p ≡ suc (n - (p + 1)) = omega arith in
    let i : suc p ≡ p + 1 = omega arith in
    ap (up_from p) e ∙ ap (λ (k : ℕ). p ∷ up_from k (n - (p + 1))) i

up_from_low : (n k s : ℕ) → s < k → among s (up_from k n) ≡ false
up_from_low zero k s h = refl
up_from_low (suc n) k s h = not_cons s k (up_from (suc k) n) (λ e. omega arith) (up_from_low n (suc k) s (omega arith))

pub up_from_distinct : (n k : ℕ) → Distinct (up_from k n)
up_from_distinct zero k = tt
up_from_distinct (suc n) k = (up_from_low n (suc k) k (omega arith), up_from_distinct n (suc k))

pub count_up_from : (n k s : ℕ) → k ≤ s → s < k + n → 1 ≤ count s (up_from k n)
count_up_from zero k s h i = absurd (omega arith)
count_up_from (suc n) k s h i =
    let ih = count_up_from n (suc k) s in
    by_test (eqb s k)
    (λ t. let e : s ≡ k = eqb-true s k t in let c = count_self k (up_from (suc k) n) in subst (λ (x : ℕ). 1 ≤ count x (up_from k (suc n))) (sym e) (omega arith))
    (λ t. let z = eqb-false s k t in rw (count_past s k (up_from (suc k) n) z) (ih (omega arith) (omega arith)))

pub up_from_within : (n k s : ℕ) → 1 ≤ count s (up_from k n) → s < k + n
up_from_within zero k s h = absurd (omega arith)
up_from_within (suc n) k s h =
    let ih = up_from_within n (suc k) s in
    by_test (eqb s k)
    (λ t. let e = eqb-true s k t in omega arith)
    (λ t. let z = eqb-false s k t in let c = count_past s k (up_from (suc k) n) z in let i = ih (omega arith) in omega arith)

-- ---- the first that the test holds of
-- two tests that agree where they are asked
pub first_ext_in : (f g : ℕ → Bool) (xs : List ℕ) → ((p : ℕ) → 1 ≤ count p xs → f p ≡ g p) → first_of f xs ≡ first_of g xs
first_ext_in f g [] e = refl
first_ext_in f g (x ∷ xs) e =
    let ih = first_ext_in f g xs (λ p h. e p (omega arith)) in
    rw (e x (let c = count_self x xs in omega arith), ih)

pub first_ext : (f g : ℕ → Bool) (n k : ℕ) → ((p : ℕ) → p < k + n → f p ≡ g p) → first_of f (up_from k n) ≡ first_of g (up_from k n)
first_ext f g n k e = first_ext_in f g (up_from k n) (λ p h. e p (up_from_within n k p h))

module _ (f : ℕ → Bool) where
  -- it stands in the list
  pub found_in : (xs : List ℕ) → (first_of f xs ≡ none → ⊥) → 1 ≤ count (first_of f xs) xs
  found_in [] h = absurd (h refl)
  found_in (x ∷ xs) h = go (f x) h (found_in xs)
    where
      go : (b : Bool) → (cond b x (first_of f xs) ≡ none → ⊥) → ((first_of f xs ≡ none → ⊥) → 1 ≤ count (first_of f xs) xs) → 1 ≤ count (cond b x (first_of f xs)) (x ∷ xs)
      go true h rec = rw (count_self x xs) (omega arith)
      go false h rec = let i = rec h in omega arith

  -- the test holds of it
  pub found_passes : (xs : List ℕ) → (first_of f xs ≡ none → ⊥) → f (first_of f xs) ≡ true
  found_passes [] h = absurd (h refl)
  found_passes (x ∷ xs) h = go (f x) refl h (found_passes xs)
    where
      go : (b : Bool) → f x ≡ b → (cond b x (first_of f xs) ≡ none → ⊥) → ((first_of f xs ≡ none → ⊥) → f (first_of f xs) ≡ true) → f (cond b x (first_of f xs)) ≡ true
      go true g h rec = g
      go false g h rec = rec h

  -- none found: whoever stands in the list fails the test
  pub found_none : (xs : List ℕ) → count none xs ≡ 0 → first_of f xs ≡ none → (s : ℕ) → 1 ≤ count s xs → f s ≡ false
  found_none [] k e s h = absurd (omega arith)
  found_none (x ∷ xs) k e s h = go (f x) refl e (found_none xs (omega arith))
    where
      go : (b : Bool) → f x ≡ b → cond b x (first_of f xs) ≡ none → (first_of f xs ≡ none → (s : ℕ) → 1 ≤ count s xs → f s ≡ false) → f s ≡ false
      go true g e rec = absurd (let i : count none (none ∷ xs) ≡ 0 = rw e at k in let j = count_self none xs in omega arith)
      go false g e rec =
          by_test (eqb s x)
          (λ t. let z : s ≡ x = eqb-true s x t in rw z g)
          (λ t. let z = eqb-false s x t in rec e s (let i = count_past s x xs z in omega arith))

  -- one of k, k + 1, .. passes the test: the one found does
  pub found_from : (n k r : ℕ) → k ≤ r → r < k + n → f r ≡ true → f (first_of f (up_from k n)) ≡ true
  found_from zero k r h i e = absurd (omega arith)
  found_from (suc n) k r h i e = go (f k) refl (found_from n (suc k) r)
    where
      go : (b : Bool) → f k ≡ b → (suc k ≤ r → r < suc k + n → f r ≡ true → f (first_of f (up_from (suc k) n)) ≡ true) → f (cond b k (first_of f (up_from (suc k) n))) ≡ true
      go true g rec = g
      go false g rec = rec (let ne : k ≡ r → ⊥ = λ z. never e (rw z at g) in omega arith) (omega arith) e

  -- and where all below it fail, it is found
  pub found_at : (n k p : ℕ) → k ≤ p → p < k + n → f p ≡ true → ((r : ℕ) → k ≤ r → r < p → f r ≡ false) → first_of f (up_from k n) ≡ p
  found_at zero k p h i e o = absurd (omega arith)
  found_at (suc n) k p h i e o =
      let ih = found_at n (suc k) p in
      by_test (eqb k p)
      (λ t. let z : k ≡ p = eqb-true k p t in let g : f k ≡ true = rw z e in rw (g, z))
      (λ t. let z = eqb-false k p t in rw (o k (omega arith) (omega arith)) (ih (omega arith) (omega arith) e (λ r b c. o r (omega arith) c)))

  pub found_no : (n k : ℕ) → ((r : ℕ) → k ≤ r → r < k + n → f r ≡ false) → first_of f (up_from k n) ≡ none
  found_no zero k o = refl
  found_no (suc n) k o = rw (o k (omega arith) (omega arith)) (found_no n (suc k) (λ r b c. o r (omega arith) (omega arith)))
