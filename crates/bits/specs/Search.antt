-- The search for the first number that is not in a set: up through the words from a number on, and round to 0 once. Assumes nothing.
use Rattle.std.specs.Prelude.{◌≡◌, List, Bool, false, ℕ, suc, ◌+◌, ◌-◌, ◌*◌, ◌/◌, ◌%◌, ◌≤◌, ◌<◌, get_or}
use Rattle.std.proofs.Common.{sym, ap, ◌∙◌, arith, Fits}
use Rattle.std.proofs.Math.Decide.{dec_lt}
use Rattle.std.specs.Int.Count.{count_trailing_zeros}
use Rattle.std.proofs.lemmas.Nat.{trailing_le}
use Rattle.std.specs.Int.{w64}
use Rattle.rules.specs.Values.{nobody}
use Rattle.rules.specs.Model.{last_number}
use Rattle.rules.specs.Rules.{successor, first_free}
use Rattle.order.specs.FirstFree.{AllUsed, first_up, first_round, first_none}
use Rattle.filled.specs.Filled.{word_of}
use Rattle.bits.specs.Set.{word_digits, word_count, set_of}
use Rattle.bits.specs.Words.{words_at}
use Rattle.bits.specs.Digits.{zeros_from, clear_here, clear_below}

-- ---- up from a number

-- r is the first from n on that is not in the set, or no digit of the words any more
pub record FirstClear (f : ℕ → Bool) (n r : ℕ) : Type 0 where
  pub onward : n ≤ r
  pub passed : AllUsed f n r
  pub clear : r < word_digits * word_count → f r ≡ false

-- ---- a turn of the loop, in words of k digits: at digit r of word j, which is x
module _ (k j r x : ℕ) (f : ℕ → Bool) (e : x ≡ word_of k (λ i. f (k * j + i))) (n : ℕ) (p : AllUsed f n (k * j + r)) where
  -- what is passed, in this word, is in the set
  over : (m : ℕ) → m ≤ k * j + r + zeros_from k r x → m ≤ k * j + k → AllUsed f n m
  over m a b i l h = elim (dec_lt i (k * j + r)) [
    | yes g ↦ p i l g
    | no g ↦
        let z : i ≡ k * j + (i - k * j) = omega arith in
        ap f z ∙ clear_below k r x _ e (i - k * j) (omega arith) (omega arith) (omega arith)
  ]

  -- a digit that is 0 is found
  reached : n ≤ k * j + r → zeros_from k r x < k → FirstClear f n (k * j + r + zeros_from k r x)
  reached l t =
      let w = clear_here k r x _ e t in
      let z : k * j + r + zeros_from k r x ≡ k * j + (r + zeros_from k r x) = omega arith in
      record { onward = omega arith; passed = over (k * j + r + zeros_from k r x) (omega arith) (omega (arith, w.0)); clear = λ _. ap f z ∙ w.1 }

  -- there is none, and the next word's turn comes
  next_word : k ≤ zeros_from k r x → AllUsed f n (k * j + k)
  next_word t = over (k * j + k) (omega arith) (omega arith)

-- ---- the code's loop, at m
module _ (s : List ℕ) (f : ℕ → Bool) (e : s ≡ set_of f) (m : ℕ) (h : m < word_digits * word_count) (n : ℕ) (p : AllUsed f n m) where
  abbrev zeros : ℕ
  zeros = zeros_from word_digits (m % word_digits) (get_or s (m / word_digits) 0)

  word : get_or s (m / word_digits) 0 ≡ word_of word_digits (λ i. f (word_digits * (m / word_digits) + i))
  word = ap (λ (l : List ℕ). get_or l (m / word_digits) 0) e ∙ words_at word_digits word_count (m / word_digits) f (omega arith)

  joined : word_digits * (m / word_digits) + m % word_digits ≡ m
  joined = omega arith

  pub turn_found : n ≤ m → zeros < word_digits → FirstClear f n (m + zeros)
  turn_found l t = rw joined at (reached word_digits (m / word_digits) (m % word_digits) _ f word n (rw joined p) (omega arith) t)

  pub turn_none : word_digits ≤ zeros → AllUsed f n ((m / word_digits + 1) * word_digits)
  turn_none t =
      let z : word_digits * (m / word_digits) + word_digits ≡ (m / word_digits + 1) * word_digits = omega arith in
      rw z at (next_word word_digits (m / word_digits) (m % word_digits) _ f word n (rw joined p) t)

-- the words are through
pub through : (f : ℕ → Bool) (n m : ℕ) → n ≤ m → word_digits * word_count ≤ m → AllUsed f n m → FirstClear f n m
through f n m l h p = record { onward = l; passed = p; clear = λ g. absurd (omega arith) }

-- what is counted fits a usize
pub zeros_fit : (x : ℕ) → Fits w64 (count_trailing_zeros word_digits x)
zeros_fit x = let h = trailing_le word_digits x in omega arith

-- ---- and round: what the code's looks come to is the rule's number
module _ (f : ℕ → Bool) (n : ℕ) where
  module _ {first : ℕ} (e : first ≡ successor n) where
    pub next_up : {r : ℕ} → FirstClear f first r → r ≤ last_number → r ≡ first_free f (suc last_number) n
    next_up {r} p l = let o = p.onward in sym (first_up f n r (omega arith) l (λ i a b. p.passed i (omega arith) b) (p.clear (omega arith)))

    pub next_round : {u r : ℕ} → FirstClear f first u → last_number < u → FirstClear f 0 r → r ≤ last_number → r ≡ first_free f (suc last_number) n
    next_round {u} {r} p g q l = sym (first_round f n r (λ i a b. p.passed i (omega arith) (omega arith)) l q.passed (q.clear (omega arith)))

  pub next_none : {r : ℕ} → FirstClear f 0 r → last_number < r → nobody ≡ first_free f (suc last_number) n
  next_none p g = sym (first_none f n (λ i a b. p.passed i a (omega arith)))
