-- How many stand in front of a place in a line: joining at the back never adds to them, and leaving never does.
-- And where nobody has more ahead than before, the line is what it was, with more behind.
use Rattle.std.specs.Prelude.{ℕ, suc, ◌≤◌, ◌≡◌, refl, ◌≢◌, List, [], ◌∷◌, ◌++◌, false, cond, eqb}
use Rattle.std.proofs.Common.{sym, ap, arith, eq-eqb, ne_eqb}
use Rattle.std.proofs.Math.Decide.{ℕ_discrete}
use Rattle.lists.specs.Lists.{count, among, Distinct, without}
use Rattle.lists.specs.Counts.{count_self, count_past, among_none}

abbrev pub ahead : ℕ → List ℕ → ℕ
ahead p [] = 0
ahead p (x ∷ l) = cond (eqb x p) 0 (suc (ahead p l))

pub ahead_past : (p x : ℕ) (l : List ℕ) → x ≢ p → ahead p (x ∷ l) ≡ suc (ahead p l)
ahead_past p x l n = rw (ne_eqb x p n)

pub ahead_append : (p : ℕ) (l r : List ℕ) → 1 ≤ count p l → ahead p (l ++ r) ≡ ahead p l
ahead_append p [] r h = absurd (omega arith)
ahead_append p (x ∷ l) r h = elim (ℕ_discrete x p) [
  | yes e ↦ rw (eq-eqb x p e)
  | no n ↦ rw (ne_eqb x p n) (ap suc (ahead_append p l r (let c = count_past p x l (λ z. n (sym z)) in omega arith)))
]

pub ahead_without : (p x : ℕ) (l : List ℕ) → x ≢ p → ahead p (without x l) ≤ ahead p l
ahead_without p x [] n = omega arith
ahead_without p x (y ∷ l) n = elim (ℕ_discrete y x) [
  | yes e ↦ rw (e, eq-eqb x x refl, ne_eqb x p n) (omega arith)
  | no k ↦ rw (ne_eqb y x k) (elim (ℕ_discrete y p) [
    | yes f ↦ rw (eq-eqb y p f) (omega arith)
    | no f ↦ rw (ne_eqb y p f) (let i = ahead_without p x l n in omega arith)
  ])
]

-- whoever stands in l stands in k, with no more ahead
abbrev pub NoFurther : List ℕ → List ℕ → Type 0
NoFurther l k = (s : ℕ) → 1 ≤ count s l → (1 ≤ count s k) × (ahead s k ≤ ahead s l)

tails : (x : ℕ) (l k : List ℕ) → among x l ≡ false → NoFurther (x ∷ l) (x ∷ k) → NoFurther l k
tails x l k d h s i =
    let n : s ≢ x = λ z. let c = among_none x l d in let j : 1 ≤ count x l = rw z at i in omega arith in
    let v = h s (rw (count_past s x l n) i) in
    let c = count_past s x k n in
    let a = ahead_past s x l (λ z. n (sym z)) in
    let b = ahead_past s x k (λ z. n (sym z)) in
    (omega arith, omega arith)

-- so k is l, with more behind
pub same_front : (l k : List ℕ) → Distinct l → NoFurther l k → (r : List ℕ) × (k ≡ l ++ r)
same_front [] k d h = (k, refl)
same_front (x ∷ l) [] d h = absurd (let c = (h x (rw (count_self x l) (omega arith))).0 in omega arith)
same_front (x ∷ l) (y ∷ k) d h =
    let ih = same_front l k d.1 in
    elim (ℕ_discrete y x) [
      | yes e ↦ let R = ih (tails x l k d.0 (rw e at h)) in (R.0, cc)
      | no n ↦ absurd (
          let a = (h x (rw (count_self x l) (omega arith))).1 in
          let b = ahead_past x y k n in
          let z : ahead x (x ∷ l) ≡ 0 = rw (eq-eqb x x refl) in
          omega arith)
    ]
