-- The lowest place that is not in a set: what it is, how the word tells it, and that it is who is found first. Assumes nothing.
use Rattle.std.specs.Prelude.{◌≡◌, refl, Bool, true, false, not, ℕ, zero, suc, ◌-◌, ◌/◌, ◌%◌, ◌^◌, ◌≤◌, ◌<◌}
use Rattle.std.proofs.Common.{ap, pow-suc, arith}
use Rattle.std.specs.Int.Count.{count_trailing_zeros}
use Rattle.lists.specs.Lists.{none, bit, first_of, up_from}
use Rattle.lists.specs.Laws.{by_test}
use Rattle.lists.specs.Search.{found_at, found_no}
use Rattle.filled.specs.Filled.{word_of, lowest_out}
use Rattle.filled.specs.Words.{word_below, word_digit}

-- `trailing_zeros` of the complement
pub word_lowest : (k : ℕ) (f : ℕ → Bool) → count_trailing_zeros k ((2 ^ k - 1) - word_of k f) ≡ lowest_out k f
unfolding count_trailing_zeros lowest_out
word_lowest zero f = refl
word_lowest (suc k) f =
    let ih = word_lowest k (λ i. f (suc i)) in
    let n = word_of (suc k) f in
    let w = word_of k (λ i. f (suc i)) in
    let a : n % 2 ≡ bit (f zero) = (word_digit k f).0 in
    let d : n / 2 ≡ w = (word_digit k f).1 in
    let b = word_below k (λ i. f (suc i)) in
    let p = pow-suc 2 k in
    let h : ((2 ^ suc k - 1) - n) / 2 ≡ (2 ^ k - 1) - w = omega arith in
    by_test (f zero)
    (λ e.
    let z = ap bit e in
    let m : ((2 ^ suc k - 1) - n) % 2 ≡ 0 = omega arith in
    rw (m, h, e) (ap suc ih))
    (λ e.
    let z = ap bit e in
    let m : ((2 ^ suc k - 1) - n) % 2 ≡ 1 = omega arith in
    rw (m, e))

-- ---- what it is
pub lowest_out_lem : (k : ℕ) (f : ℕ → Bool) → lowest_out k f < k → f (lowest_out k f) ≡ false
unfolding lowest_out
lowest_out_lem zero f h = absurd (omega arith)
lowest_out_lem (suc k) f h =
    let ih = lowest_out_lem k (λ i. f (suc i)) in
    by_test (f zero)
    (λ e. let g : suc (lowest_out k (λ i. f (suc i))) < suc k = rw e at h in rw e (ih (omega arith)))
    (λ e. rw (e, e))

pub lowest_in : (k : ℕ) (f : ℕ → Bool) (p : ℕ) → p < lowest_out k f → f p ≡ true
unfolding lowest_out
lowest_in zero f p h = absurd (omega arith)
lowest_in (suc k) f zero h = by_test (f zero) (λ e. e) (λ e. let g : 0 < 0 = rw e at h in absurd (omega arith))
lowest_in (suc k) f (suc p) h =
    let ih = lowest_in k (λ i. f (suc i)) p in
    by_test (f zero)
    (λ e. let g : suc p < suc (lowest_out k (λ i. f (suc i))) = rw e at h in ih (omega arith))
    (λ e. let g : suc p < 0 = rw e at h in absurd (omega arith))

-- ---- it is who is found first
module _ (k : ℕ) (f : ℕ → Bool) where
  pub lowest_first : lowest_out k f < k → first_of (λ p. not (f p)) (up_from 0 k) ≡ lowest_out k f
  lowest_first h = found_at (λ p. not (f p)) k 0 (lowest_out k f) (omega arith) (omega arith) (rw (lowest_out_lem k f h)) (λ r a b. rw (lowest_in k f r b))

  pub lowest_none : k ≤ lowest_out k f → first_of (λ p. not (f p)) (up_from 0 k) ≡ none
  lowest_none h = found_no (λ p. not (f p)) k 0 (λ r a b. rw (lowest_in k f r (omega arith)))
