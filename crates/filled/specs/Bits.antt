-- A digit of the word set, and cleared, by the code's operations. Assumes nothing.
use Rattle.std.specs.Prelude.{◌≡◌, Bool, true, false, cond, ℕ, zero, suc, ◌+◌, ◌-◌, ◌*◌, ◌/◌, ◌%◌, ◌^◌, ◌≤◌, ◌<◌, max, eqb}
use Rattle.std.proofs.Common.{sym, ap, ◌∙◌, pow-suc, mod-eq_of_lt, arith, pow_mono, pow_pos, shl_exact, Fits}
use Rattle.std.proofs.Math.Dec.{eqb-suc-zero, eqb-zero-suc, eqb-suc-suc}
use Rattle.std.specs.Int.Bits.{bit_or, bit_and, or_step, and_step, or_zero_r}
use Rattle.std.proofs.lemmas.Nat.{and_mask}
use Rattle.std.specs.Int.{w8}
use Rattle.lists.specs.Lists.{bit}
use Rattle.lists.specs.Tables.{bit_low}
use Rattle.filled.specs.Filled.{width, word_of, including, excluding}
use Rattle.filled.specs.Words.{word_below, word_digit, word_ext}

-- a change at 0 leaves the digits above, and one at suc p changes them at p
above_here : (b : Bool) (k : ℕ) (f : ℕ → Bool) → word_of k (λ i. cond (eqb (suc i) zero) b (f (suc i))) ≡ word_of k (λ i. f (suc i))
above_here b k f = word_ext k (λ i. cond (eqb (suc i) zero) b (f (suc i))) (λ i. f (suc i)) (λ i h. rw (eqb-suc-zero i))

above_there : (b : Bool) (k p : ℕ) (f : ℕ → Bool) → word_of k (λ i. cond (eqb (suc i) (suc p)) b (f (suc i))) ≡ word_of k (λ i. cond (eqb i p) b (f (suc i)))
above_there b k p f = word_ext k (λ i. cond (eqb (suc i) (suc p)) b (f (suc i))) (λ i. cond (eqb i p) b (f (suc i))) (λ i h. rw (eqb-suc-suc i p))

-- the word of a set that is changed at p, by its digits
changed_here : (b : Bool) (k : ℕ) (f : ℕ → Bool) → word_of (suc k) (λ i. cond (eqb i zero) b (f i)) ≡ bit b + 2 * word_of k (λ i. f (suc i))
unfolding word_of
changed_here b k f = ap (λ (w : ℕ). bit b + 2 * w) (above_here b k f)

changed_there : (b : Bool) (k p : ℕ) (f : ℕ → Bool) → word_of (suc k) (λ i. cond (eqb i (suc p)) b (f i)) ≡ bit (f zero) + 2 * word_of k (λ i. cond (eqb i p) b (f (suc i)))
unfolding word_of
changed_there b k p f = rw (eqb-zero-suc p) (ap (λ (w : ℕ). bit (f zero) + 2 * w) (above_there b k p f))

-- ---- set
-- the steps stand by themselves, with no match: the clauses of the recursion are then short enough to be checked
set_here : (k n w a : ℕ) → n % 2 ≡ a → n / 2 ≡ w → bit_or n (2 ^ zero) ≡ 1 + 2 * w
set_here k n w a e d =
    let s : bit_or n 1 ≡ bit_or (n / 2) 0 * 2 + max (n % 2) 1 = or_step n 1 in
    let z = or_zero_r (n / 2) in
    omega arith

set_there : (p n w a m : ℕ) → n % 2 ≡ a → n / 2 ≡ w → bit_or w (2 ^ p) ≡ m → bit_or n (2 ^ suc p) ≡ a + 2 * m
set_there p n w a m e d h =
    let q = pow-suc 2 p in
    let g : 2 ^ suc p / 2 ≡ 2 ^ p = omega arith in
    let s = rw (g, d) at (or_step n (2 ^ suc p)) in
    omega arith

pub word_with : (k p : ℕ) (f : ℕ → Bool) → p < k → bit_or (word_of k f) (2 ^ p) ≡ word_of k (including p f)
word_with zero p f h = absurd (omega arith)
word_with (suc k) zero f h =
    set_here k (word_of (suc k) f) _ _ (word_digit k f).0 (word_digit k f).1 ∙ sym (changed_here true k f)
word_with (suc k) (suc p) f h =
    set_there p (word_of (suc k) f) _ _ _ (word_digit k f).0 (word_digit k f).1 (word_with k p (λ i. f (suc i)) (omega arith)) ∙ sym (changed_there true k p f)

-- ---- cleared
cleared : (k p : ℕ) → p < k → (((2 ^ suc k - 1) - 2 ^ suc p) / 2 ≡ (2 ^ k - 1) - 2 ^ p) × (((2 ^ suc k - 1) - 2 ^ suc p) % 2 ≡ 1)
cleared k p h =
    let q = pow-suc 2 k in
    let q' = pow-suc 2 p in
    let m : 2 ^ suc p ≤ 2 ^ k = pow_mono h in
    let z = pow_pos p in
    (omega arith, omega arith)

clear_here : (k n w : ℕ) → n / 2 ≡ w → w < 2 ^ k → bit_and n ((2 ^ suc k - 1) - 2 ^ zero) ≡ 2 * w
clear_here k n w d b =
    let q = pow-suc 2 k in
    let m = (2 ^ suc k - 1) - 1 in
    let e : m / 2 ≡ 2 ^ k - 1 = omega arith in
    let s = rw (e, d, and_mask w k, mod-eq_of_lt b) at (and_step n m) in
    omega arith

clear_there : (k p n w a m : ℕ) → p < k → a ≤ 1 → n % 2 ≡ a → n / 2 ≡ w → bit_and w ((2 ^ k - 1) - 2 ^ p) ≡ m → bit_and n ((2 ^ suc k - 1) - 2 ^ suc p) ≡ a + 2 * m
clear_there k p n w a m h b e d g =
    let c = cleared k p h in
    let s = rw (c.0, c.1, d, e) at (and_step n ((2 ^ suc k - 1) - 2 ^ suc p)) in
    omega arith

pub word_less : (k p : ℕ) (f : ℕ → Bool) → p < k → bit_and (word_of k f) ((2 ^ k - 1) - 2 ^ p) ≡ word_of k (excluding p f)
word_less zero p f h = absurd (omega arith)
word_less (suc k) zero f h =
    clear_here k (word_of (suc k) f) _ (word_digit k f).1 (word_below k (λ i. f (suc i))) ∙ omega (arith, changed_here false k f)
word_less (suc k) (suc p) f h =
    clear_there k p (word_of (suc k) f) _ _ _ (omega arith) (bit_low (f zero)) (word_digit k f).0 (word_digit k f).1 (word_less k p (λ i. f (suc i)) (omega arith)) ∙ sym (changed_there false k p f)

-- what `1 << p` is, in a word of k digits
pub shl_one : (k p : ℕ) → p < k → (1 * 2 ^ p) % 2 ^ k ≡ 2 ^ p
shl_one k p h = shl_exact {a = 1} 1 p k (omega arith) (omega arith) ∙ omega arith

-- a number of places fits a byte
pub fits_byte : {n : ℕ} → n ≤ width → Fits w8 n
fits_byte h = omega arith
