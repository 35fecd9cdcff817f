-- There is always a number to give: 254 of them follow one another before one comes back, and fewer are barred.
use Prim.Native.Nat.{ℕ, zero, suc, ◌+◌, ◌≤◌, ◌<◌}
use Rattle.std.specs.Prelude.{◌≡◌, ◌≢◌, List, [], ◌∷◌, Bool, length, ltb}
use Rattle.std.proofs.Math.Path.{refl}
use Rattle.std.proofs.Common.{sym, ap, arith, eq-eqb, ltb-true, ltb-false}
use Rattle.std.proofs.Math.Bool.{true, false, cond}
use Rattle.std.proofs.Math.Decide.{ℕ_discrete, dec_lt}
use Rattle.lists.specs.Lists.{count}
use Rattle.lists.specs.Counts.{count_past, among_some, count_distinct}
use Rattle.lists.specs.Without.{pigeons}
use Rattle.rules.specs.Values.{nobody}
use Rattle.rules.specs.Model.{last_number}
use Rattle.rules.specs.Rules.{successor, first_free}

-- ---- the k numbers after n

candidates : ℕ → ℕ → List ℕ
candidates zero n = []
candidates (suc k) n = successor n ∷ candidates k (successor n)

successor_cases : (n : ℕ) → n ≤ last_number → (P : ℕ → Type 0) → (n < last_number → P (n + 1)) → (n ≡ last_number → P 0) → P (successor n)
successor_cases n h P a b = go (ltb n last_number) refl
  where
    go : (t : Bool) → ltb n last_number ≡ t → P (cond t (n + 1) 0)
    go true e = a (ltb-true n last_number e)
    go false e = b (let i = ltb-false n last_number e in omega arith)

pub successor_low : (n : ℕ) → n ≤ last_number → successor n ≤ last_number
successor_low n h = successor_cases n h (λ s. s ≤ last_number) (λ i. omega arith) (λ i. omega arith)

-- x is at most k steps after n
abbrev Near : ℕ → ℕ → ℕ → Type 0
Near k n x = (n < x → x ≤ n + k) × (x ≤ n → x + suc last_number ≤ n + k)

near_step : (k n x : ℕ) → n ≤ last_number → (x ≢ successor n → Near k (successor n) x) → Near (suc k) n x
near_step k n x h = successor_cases n h (λ s. (x ≢ s → Near k s x) → Near (suc k) n x)
    (λ i r. elim (ℕ_discrete x (n + 1)) [
      | yes e ↦ omega arith
      | no z ↦ let v = r z in elim (dec_lt (n + 1) x) [ yes j ↦ let w = v.0 j in omega arith | no j ↦ let w = v.1 (omega arith) in omega arith ]
    ])
    (λ i r. elim (ℕ_discrete x 0) [
      | yes e ↦ omega arith
      | no z ↦ let v = r z in elim (dec_lt 0 x) [ yes j ↦ let w = v.0 j in omega arith | no j ↦ let w = v.1 (omega arith) in omega arith ]
    ])

near : (k n x : ℕ) → n ≤ last_number → 1 ≤ count x (candidates k n) → Near k n x
unfolding candidates
near zero n x h i = absurd (omega arith)
near (suc k) n x h i = near_step k n x h (λ z. near k (successor n) x (successor_low n h) (let c = count_past x (successor n) (candidates k (successor n)) z in omega arith))

once : (k n x : ℕ) → n ≤ last_number → k ≤ suc last_number → count x (candidates k n) ≤ 1
unfolding candidates
once zero n x h i = omega arith
once (suc k) n x h i = elim (ℕ_discrete x (successor n)) [
  | no z ↦ let c = count_past x (successor n) (candidates k (successor n)) z in let r = once k (successor n) x (successor_low n h) (omega arith) in omega arith
  | yes e ↦ let c = count_here x (successor n) (candidates k (successor n)) e in elim (dec_lt 0 (count x (candidates k (successor n)))) [
    | no j ↦ omega arith
    | yes j ↦ let v = (near k (successor n) x (successor_low n h) j).1 (omega arith) in absurd (omega arith)
  ]
]
  where
    count_here : (x s : ℕ) (l : List ℕ) → x ≡ s → count x (s ∷ l) ≡ suc (count x l)
    count_here x s l e = rw (eq-eqb s x (sym e)) (omega arith)

length_candidates : (k n : ℕ) → length (candidates k n) ≡ k
unfolding candidates
length_candidates zero n = refl
length_candidates (suc k) n = ap suc (length_candidates k (successor n))

-- ---- the first of them that is free

module _ (used : ℕ → Bool) where
  pub free_low : (k n : ℕ) → n ≤ last_number → first_free used k n ≢ nobody → (first_free used k n ≤ last_number) × (used (first_free used k n) ≡ false)
  unfolding first_free
  free_low zero n h i = absurd (i refl)
  free_low (suc k) n h i = go (used (successor n)) refl i (free_low k (successor n) (successor_low n h))
    where
      go : (b : Bool) → used (successor n) ≡ b → cond b (first_free used k (successor n)) (successor n) ≢ nobody
          → (first_free used k (successor n) ≢ nobody → (first_free used k (successor n) ≤ last_number) × (used (first_free used k (successor n)) ≡ false))
          → (cond b (first_free used k (successor n)) (successor n) ≤ last_number) × (used (cond b (first_free used k (successor n)) (successor n)) ≡ false)
      go true e i r = r i
      go false e i r = (successor_low n h, e)

  all_used : (k n : ℕ) → n ≤ last_number → first_free used k n ≡ nobody → (x : ℕ) → 1 ≤ count x (candidates k n) → used x ≡ true
  unfolding candidates first_free
  all_used zero n h e x i = absurd (omega arith)
  all_used (suc k) n h e x i = go (used (successor n)) refl e (all_used k (successor n) (successor_low n h))
    where
      go : (b : Bool) → used (successor n) ≡ b → cond b (first_free used k (successor n)) (successor n) ≡ nobody
          → (first_free used k (successor n) ≡ nobody → (x : ℕ) → 1 ≤ count x (candidates k (successor n)) → used x ≡ true) → used x ≡ true
      go true f e r = elim (ℕ_discrete x (successor n)) [
        | yes z ↦ rw z f
        | no z ↦ r e x (let c = count_past x (successor n) (candidates k (successor n)) z in omega arith)
      ]
      go false f e r = absurd (let j = successor_low n h in omega arith)

  -- each used one is the number f p of some p below c: more than c in a row are not all used
  pub some_free : (f : ℕ → ℕ) (c : ℕ) → ((x : ℕ) → used x ≡ true → (p : ℕ) × (p < c) × (f p ≡ x))
      → (k n : ℕ) → n ≤ last_number → k ≤ suc last_number → c < k → first_free used k n ≢ nobody
  some_free f c at k n h i j e =
      let a = pigeons f c (candidates k n) (λ x g. at x (all_used k n h e x (among_some x (candidates k n) g))) (count_distinct (candidates k n) (λ x. once k n x h i)) in
      let b = length_candidates k n in
      omega arith
