-- How many zeros stand below the lowest digit that is 1: there that digit is, and below it none. Assumes nothing.
use Rattle.std.specs.Prelude.{◌≡◌, refl, true, false, ℕ, zero, suc, ◌/◌, ◌%◌, ◌<◌}
use Rattle.std.proofs.Common.{arith}
use Rattle.std.specs.Int.Count.{count_trailing_zeros, under}
use Rattle.rules.specs.Devices.{digit}

pub digit_here : (k n : ℕ) → count_trailing_zeros k n < k → digit (count_trailing_zeros k n) n ≡ true
unfolding count_trailing_zeros
digit_here zero n h = absurd (omega arith)
digit_here (suc k) n h = go (count_trailing_zeros k (n / 2)) (n % 2) refl h (digit_here k (n / 2))
  where
    go : (t d : ℕ) → n % 2 ≡ d → under d t < suc k → (t < k → digit t (n / 2) ≡ true) → digit (under d t) n ≡ true
    go t zero e g ih = ih (omega arith)
    go t (suc d) e g ih = let z : n % 2 ≡ 1 = omega arith in rw z

pub digit_below : (k n r : ℕ) → r < count_trailing_zeros k n → digit r n ≡ false
unfolding count_trailing_zeros
digit_below zero n r h = absurd (omega arith)
digit_below (suc k) n r h = go (count_trailing_zeros k (n / 2)) (n % 2) refl r h (digit_below k (n / 2))
  where
    go : (t d : ℕ) → n % 2 ≡ d → (r : ℕ) → r < under d t → ((r : ℕ) → r < t → digit r (n / 2) ≡ false) → digit r n ≡ false
    go t zero e zero g ih = rw e
    go t zero e (suc r) g ih = ih r (omega arith)
    go t (suc d) e r g ih = absurd (omega arith)
