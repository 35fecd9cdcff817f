-- The first pending index, found by the zeros below it in the one word or the other.
use Rattle.std.specs.Prelude.{◌≡◌, false, ℕ, ◌+◌, ◌-◌, ◌≤◌, ◌<◌}
use Rattle.std.proofs.Math.Path.{sym}
use Rattle.std.proofs.Common.{ap, ◌∙◌, arith, lt-ltb, le-ltb}
use Rattle.std.proofs.Math.Decide.{dec_lt}
use Rattle.std.specs.Int.Count.{count_trailing_zeros}
use Rattle.lists.specs.Lists.{none}
use Rattle.lists.specs.Search.{found_at, found_no}
use Rattle.lists.specs.Sizes.{devices}
use Rattle.rules.specs.Devices.{digit, low_digits, pends, all_devices, first_pending}
use Rattle.rules.specs.declared.Pending.{Pending}
use Rattle.pending.specs.Digits.{digit_here, digit_below}

-- the digits of the high word are the rest of the 48
abbrev pub high_digits : ℕ
high_digits = devices - low_digits

module _ (s : Pending) where
  abbrev low : ℕ
  low = count_trailing_zeros low_digits s.low

  abbrev high : ℕ
  high = count_trailing_zeros high_digits s.high

  -- an index of the low word, and one of the high word
  in_low : (i : ℕ) → i < low_digits → pends s i ≡ digit i s.low
  in_low i h = rw (lt-ltb i low_digits h)

  in_high : (j : ℕ) → pends s (low_digits + j) ≡ digit j s.high
  in_high j = let e : low_digits + j - low_digits ≡ j = omega arith in rw (le-ltb (low_digits + j) low_digits (omega arith), e)

  pub low_first : low < low_digits → low ≡ first_pending s
  unfolding all_devices
  low_first h = sym (found_at (pends s) devices 0 low (omega arith) (omega arith) (in_low low h ∙ digit_here low_digits s.low h)
      (λ r a b. in_low r (omega arith) ∙ digit_below low_digits s.low r b))

  module _ (n : low_digits ≤ low) where
    none_low : (r : ℕ) → r < low_digits → pends s r ≡ false
    none_low r h = in_low r h ∙ digit_below low_digits s.low r (omega arith)

    -- below an index of the high word, where no digit of that word is 1 below it
    none_below : (p : ℕ) → ((j : ℕ) → low_digits + j < p → digit j s.high ≡ false) → (r : ℕ) → r < p → pends s r ≡ false
    none_below p f r h = elim (dec_lt r low_digits) [
      | yes g ↦ none_low r g
      | no g ↦
          let e : low_digits + (r - low_digits) ≡ r = omega arith in
          ap (pends s) (sym e) ∙ in_high (r - low_digits) ∙ f (r - low_digits) (omega arith)
    ]

    pub high_first : high < high_digits → low_digits + high ≡ first_pending s
    unfolding all_devices
    high_first h = sym (found_at (pends s) devices 0 (low_digits + high) (omega arith) (omega arith) (in_high high ∙ digit_here high_digits s.high h)
        (λ r a b. none_below (low_digits + high) (λ j g. digit_below high_digits s.high j (omega arith)) r b))

    pub none_first : high_digits ≤ high → none ≡ first_pending s
    unfolding all_devices
    none_first h = sym (found_no (pends s) devices 0 (λ r a b. none_below devices (λ j g. digit_below high_digits s.high j (omega arith)) r b))
