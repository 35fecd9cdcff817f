-- The digits of a word, and the first of them from r on that is 0, by the zeros of the complement. For any number of digits. Assumes nothing.
use Rattle.std.specs.Prelude.{◌≡◌, refl, Bool, true, false, not, ℕ, zero, suc, ◌+◌, ◌-◌, ◌/◌, ◌%◌, ◌^◌, ◌≤◌, ◌<◌, eqb}
use Rattle.std.proofs.Common.{sym, ap, ◌∙◌, zero-add, pow-suc, div-one, arith, shr-shr}
use Rattle.std.proofs.Math.Decide.{dec_lt}
use Rattle.std.proofs.lemmas.Bool.{not-true, not-false}
use Rattle.std.specs.Int.Count.{count_trailing_zeros}
use Rattle.lists.specs.Lists.{bit}
use Rattle.lists.specs.Laws.{never}
use Rattle.rules.specs.Devices.{digit}
use Rattle.pending.specs.Digits.{digit_here, digit_below}
use Rattle.filled.specs.Filled.{word_of}
use Rattle.filled.specs.Words.{word_below, word_digit}

bit_not : (b : Bool) → bit (not b) + bit b ≡ 1
bit_not true = refl
bit_not false = refl

-- the complement of the word is the word of the complement
word_not : (k : ℕ) (f : ℕ → Bool) → (2 ^ k - 1) - word_of k f ≡ word_of k (λ i. not (f i))
unfolding word_of
word_not zero f = refl
word_not (suc k) f =
    let ih = word_not k (λ i. f (suc i)) in
    let b = word_below k (λ i. f (suc i)) in
    let p = pow-suc 2 k in
    let z = bit_not (f zero) in
    omega arith

is_bit : (b : Bool) → eqb (bit b) 1 ≡ b
is_bit true = refl
is_bit false = refl

word_at : (k i : ℕ) (f : ℕ → Bool) → i < k → digit i (word_of k f) ≡ f i
word_at zero i f h = absurd (omega arith)
word_at (suc k) zero f h = ap (λ (d : ℕ). eqb d 1) (word_digit k f).0 ∙ is_bit (f zero)
word_at (suc k) (suc i) f h = ap (digit i) (word_digit k f).1 ∙ word_at k i (λ j. f (suc j)) (omega arith)

digit_none : (i : ℕ) → digit i 0 ≡ false
digit_none zero = refl
digit_none (suc i) = digit_none i

word_past : (k i : ℕ) (f : ℕ → Bool) → k ≤ i → digit i (word_of k f) ≡ false
unfolding word_of
word_past zero i f h = digit_none i
word_past (suc k) zero f h = absurd (omega arith)
word_past (suc k) (suc i) f h = ap (digit i) (word_digit k f).1 ∙ word_past k i (λ j. f (suc j)) (omega arith)

-- `>> r`
digit_shr : (r i n : ℕ) → digit i (n / 2 ^ r) ≡ digit (r + i) n
digit_shr zero i n = rw zero-add (ap (digit i) (div-one n))
digit_shr (suc r) i n =
    let s : suc r ≡ 1 + r = omega arith in
    let z : suc (r + i) ≡ suc r + i = omega arith in
    ap (λ (m : ℕ). digit i (n / 2 ^ m)) s ∙ ap (digit i) (sym (shr-shr n 1 r)) ∙ digit_shr r i (n / 2) ∙ ap (λ (m : ℕ). digit m n) z

-- `trailing_zeros(!x >> r)`: how many digits of x stand from digit r on up to the first that is 0; k where none of them is
abbrev pub zeros_from : ℕ → ℕ → ℕ → ℕ
zeros_from k r x = count_trailing_zeros k (((2 ^ k - 1) - x) / 2 ^ r)

-- in the word of a set
module _ (k r x : ℕ) (f : ℕ → Bool) (e : x ≡ word_of k f) where
  abbrev clear : ℕ → Bool
  clear i = not (f i)

  counted : (i : ℕ) → digit i (((2 ^ k - 1) - x) / 2 ^ r) ≡ digit (r + i) (word_of k clear)
  counted i = digit_shr r i ((2 ^ k - 1) - x) ∙ ap (λ (y : ℕ). digit (r + i) ((2 ^ k - 1) - y)) e ∙ ap (digit (r + i)) (word_not k f)

  pub clear_here : zeros_from k r x < k → (r + zeros_from k r x < k) × (f (r + zeros_from k r x) ≡ false)
  clear_here h =
      let at = r + zeros_from k r x in
      let t = sym (counted (zeros_from k r x)) ∙ digit_here k (((2 ^ k - 1) - x) / 2 ^ r) h in
      elim (dec_lt at k) [
        | yes g ↦ (g, not-true (f at) (sym (word_at k at clear g) ∙ t))
        | no g ↦ never t (word_past k at clear (omega arith))
      ]

  pub clear_below : (i : ℕ) → r ≤ i → i < k → i < r + zeros_from k r x → f i ≡ true
  clear_below i a b h =
      let z : i ≡ r + (i - r) = omega arith in
      not-false (f i)
      (sym (word_at k i clear b) ∙ ap (λ (d : ℕ). digit d (word_of k clear)) z ∙ sym (counted (i - r))
      ∙ digit_below k (((2 ^ k - 1) - x) / 2 ^ r) (i - r) (omega arith))

-- ---- each word is that of a set, the one that its digits tell
pub word_told : (k n : ℕ) → n < 2 ^ k → n ≡ word_of k (λ i. digit i n)
unfolding word_of
word_told zero n h = omega arith
word_told (suc k) n h =
    let p = pow-suc 2 k in
    let i = word_told k (n / 2) (omega arith) in
    let d : bit (eqb (n % 2) 1) ≡ n % 2 = parity (n % 2) (omega arith) in
    omega arith
  where
    parity : (m : ℕ) → m < 2 → bit (eqb m 1) ≡ m
    parity zero g = refl
    parity (suc zero) g = refl
    parity (suc (suc m)) g = absurd (omega arith)
