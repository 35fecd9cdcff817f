-- Those of a list that a test holds of: who they are, and how many. Assumes nothing.
use Rattle.std.specs.Prelude.{◌≡◌, List, [], ◌∷◌, ◌++◌, Bool, true, false, eqb}
use Rattle.std.proofs.Math.Path.{refl, ap}
use Rattle.std.proofs.Common.{◌∙◌, eqb-true}
use Prim.Native.Nat.{ℕ, zero, suc, ◌+◌, ◌≤◌}
use native.Mathlib.Omega.{arith}
use Rattle.std.proofs.Math.ListN.{length}
use Rattle.lists.specs.Lists.{among, Distinct, up_from, tally, only}
use Rattle.lists.specs.Laws.{by_test, never, not_head, not_tail, not_cons, is_head, is_tail}
use Rattle.lists.specs.Search.{up_from_length}
use Rattle.lists.specs.Tables.{tally_ext}

module _ (f : ℕ → Bool) where
  -- ---- who they are
  pub only_out : (p : ℕ) (xs : List ℕ) → f p ≡ false → among p (only f xs) ≡ false
  only_out p [] h = refl
  only_out p (x ∷ xs) h =
      let ih = only_out p xs h in
      by_test (f x)
      (λ t. rw t (not_cons p x (only f xs) (λ e. never t (rw e h)) ih))
      (λ t. rw t ih)

  pub only_in : (p : ℕ) (xs : List ℕ) → f p ≡ true → among p xs ≡ true → among p (only f xs) ≡ true
  only_in p [] h g = g
  only_in p (x ∷ xs) h g =
      let ih = only_in p xs h in
      by_test (eqb x p)
      (λ e. let z : x ≡ p = eqb-true x p e in let t : f x ≡ true = rw z h in rw t (is_head p x (only f xs) z))
      (λ e. let i = ih (rw e at g) in by_test (f x) (λ t. rw t (is_tail p x (only f xs) i)) (λ t. rw t i))

  pub only_not : (p : ℕ) (xs : List ℕ) → among p xs ≡ false → among p (only f xs) ≡ false
  only_not p [] h = refl
  only_not p (x ∷ xs) h =
      let ih = only_not p xs (not_tail p x xs h) in
      by_test (f x) (λ t. rw t (not_cons p x (only f xs) (not_head p x xs h) ih)) (λ t. rw t ih)

  pub only_distinct : (xs : List ℕ) → Distinct xs → Distinct (only f xs)
  only_distinct [] d = tt
  only_distinct (x ∷ xs) d =
      let ih = only_distinct xs d.1 in
      by_test (f x) (λ t. rw t (only_not x xs d.0, ih)) (λ t. rw t ih)

  pub only_append : (xs ys : List ℕ) → only f (xs ++ ys) ≡ only f xs ++ only f ys
  only_append [] ys = refl
  only_append (x ∷ xs) ys = let ih = only_append xs ys in by_test (f x) (λ t. rw (t, ih)) (λ t. rw (t, ih))

  -- ---- how many
  only_short : (xs : List ℕ) → length (only f xs) ≤ length xs
  only_short [] = omega arith
  only_short (x ∷ xs) = let i = only_short xs in by_test (f x) (λ e. rw e (omega arith)) (λ e. rw e (omega arith))

  -- of n numbers, at most n, and as many as the tally says
  pub only_few : (k n : ℕ) → length (only f (up_from k n)) ≤ n
  only_few k n = let a = only_short (up_from k n) in let b = up_from_length k n in omega arith

  pub only_tally : (k n : ℕ) → length (only f (up_from k n)) ≡ tally n (λ i. f (k + i))
  unfolding tally
  only_tally k zero = refl
  only_tally k (suc n) =
      let e : k + 0 ≡ k = omega arith in
      let i : length (only f (up_from (suc k) n)) ≡ tally n (λ i. f (k + suc i)) =
      only_tally (suc k) n ∙ tally_ext n (λ i. f (suc k + i)) (λ i. f (k + suc i)) (λ i h. ap f (omega arith)) in
      by_test (f k) (λ t. rw (t, e, t) (omega arith)) (λ t. rw (t, e, t) (omega arith))
