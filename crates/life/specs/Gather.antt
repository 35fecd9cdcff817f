-- The barred numbers, gathered into a set of bits place by place.
use Rattle.std.specs.Prelude.{◌≡◌, List, Bool, ◌||◌, eqb, get_or}
use Rattle.std.proofs.Common.{sym, ◌∙◌, eq-eqb, ne_eqb}
use Rattle.std.proofs.Math.Path.{ap}
use Rattle.std.proofs.Math.Bool.{or-false, or_assoc}
use Prim.Native.Nat.{ℕ, zero, suc, ◌+◌}
use native.Mathlib.Omega.{arith}
use Rattle.rules.specs.Model.{Empty}
use Rattle.table.specs.Cells.{cell}
use Rattle.bits.specs.Set.{Adds}
use Rattle.bits.specs.Adds.{adds_none, adds_both, adds_ext}
use Rattle.life.specs.Number.{bars_at, bars_from}

module _ (b : List ℕ) (p : ℕ) {s : List ℕ} where
  -- an empty place adds nothing,
  pub bar_none : get_or b (cell 1 p) 0 ≡ Empty → Adds s (λ n. bars_at b n p) s
  bar_none e = adds_ext (λ n. bars_at b n p) (λ n. rw (eq-eqb (get_or b (cell 1 p) 0) Empty e)) adds_none

  -- another its thread's number and the who of the thread's answer
  pub bar_both : {s' s'' : List ℕ} → (get_or b (cell 1 p) 0 ≡ Empty → ⊥)
      → Adds s (eqb (get_or b (cell 0 p) 0)) s' → Adds s' (eqb (get_or b (cell 4 p) 0)) s'' → Adds s (λ n. bars_at b n p) s''
  bar_both e x y = adds_ext (λ n. bars_at b n p) (λ n. rw (ne_eqb (get_or b (cell 1 p) 0) Empty e)) (adds_both x y)

-- ---- the loop: what the places below p bar is in the set
module _ (b : List ℕ) where
  bars_more : (n q c : ℕ) → bars_from b n q c || bars_at b n (q + c) ≡ bars_from b n q (suc c)
  unfolding bars_from
  bars_more n q zero = let z : q + 0 ≡ q = omega arith in rw z (sym (or-false (bars_at b n q)))
  bars_more n q (suc c) =
      let z : q + suc c ≡ suc q + c = omega arith in
      rw z (or_assoc (bars_at b n q) (bars_from b n (suc q) c) (bars_at b n (suc q + c)) ∙ ap (λ (t : Bool). bars_at b n q || t) (bars_more n (suc q) c))

  bars_next : (n p : ℕ) → bars_from b n 0 p || bars_at b n p ≡ bars_from b n 0 (p + 1)
  bars_next n p =
      let y : suc p ≡ p + 1 = omega arith in
      let z : p ≡ 0 + p = omega arith in
      ap (λ (q : ℕ). bars_from b n 0 p || bars_at b n q) z ∙ bars_more n 0 p ∙ ap (bars_from b n 0) y

  module _ {s : List ℕ} where
    pub gather_none : Adds s (λ n. bars_from b n 0 0) s
    unfolding bars_from
    gather_none = adds_none

    pub gather_more : (p : ℕ) {s' s'' : List ℕ} → Adds s (λ n. bars_from b n 0 p) s' → Adds s' (λ n. bars_at b n p) s''
        → Adds s (λ n. bars_from b n 0 (p + 1)) s''
    gather_more p x y = adds_ext (λ n. bars_from b n 0 (p + 1)) (λ n. bars_next n p) (adds_both x y)
