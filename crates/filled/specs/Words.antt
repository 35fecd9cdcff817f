-- The word of a set: its digits, its size, and that sets with the same answers have the same word. Assumes nothing.
use Rattle.std.specs.Prelude.{◌≡◌, refl, Bool, false, ℕ, zero, suc, ◌+◌, ◌/◌, ◌%◌, ◌^◌, ◌<◌}
use Rattle.std.proofs.Common.{ap, ◌∙◌, pow-suc, arith}
use Rattle.std.specs.Int.Count.{ones, ones_step}
use Rattle.std.proofs.lemmas.Nat.{ones-le}
use Rattle.lists.specs.Lists.{bit, tally}
use Rattle.lists.specs.Tables.{bit_low}
use Rattle.filled.specs.Filled.{word_of}

pub word_below : (k : ℕ) (f : ℕ → Bool) → word_of k f < 2 ^ k
unfolding word_of
word_below zero f = omega arith
word_below (suc k) f = let h = word_below k (λ i. f (suc i)) in let b = bit_low (f zero) in let p = pow-suc 2 k in omega arith

-- the lowest digit, and the others
pub word_digit : (k : ℕ) (f : ℕ → Bool) → (word_of (suc k) f % 2 ≡ bit (f zero)) × (word_of (suc k) f / 2 ≡ word_of k (λ i. f (suc i)))
unfolding word_of
word_digit k f = let b = bit_low (f zero) in (omega arith, omega arith)

-- ---- the word of a set
pub word_ext : (k : ℕ) (f g : ℕ → Bool) → ((p : ℕ) → p < k → f p ≡ g p) → word_of k f ≡ word_of k g
unfolding word_of
word_ext zero f g e = refl
word_ext (suc k) f g e =
    let b : bit (f zero) ≡ bit (g zero) = ap bit (e 0 (omega arith)) in
    let i = word_ext k (λ i. f (suc i)) (λ i. g (suc i)) (λ p h. e (suc p) (omega arith)) in
    omega arith

-- nobody
pub word_none : (k : ℕ) (f : ℕ → Bool) → ((p : ℕ) → p < k → f p ≡ false) → word_of k f ≡ 0
unfolding word_of
word_none zero f e = refl
word_none (suc k) f e = let b : bit (f zero) ≡ 0 = ap bit (e 0 (omega arith)) in let h = word_none k (λ i. f (suc i)) (λ p i. e (suc p) (omega arith)) in omega arith

-- how many
pub word_ones : (k : ℕ) (f : ℕ → Bool) → ones (word_of k f) ≡ tally k f
unfolding tally
word_ones zero f = let h = word_below 0 f in let l = ones-le 0 (word_of 0 f) h in omega arith
word_ones (suc k) f = ones_step (word_of (suc k) f) ∙ rw ((word_digit k f).0, (word_digit k f).1) (ap (λ (n : ℕ). bit (f zero) + n) (word_ones k (λ i. f (suc i))))
