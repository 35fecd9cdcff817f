-- A set of numbers in an array of words: with k digits to a word, number n is in the set where digit n % k of word n / k is 1. A set is a test on numbers, and
-- the words stand for as many of its answers as they have digits.
-- How to use it: keep `s ≡ set_of f`, with f the test whether a number is in the set; there is one for any words (`words_told`). Each function's contract, given f
-- and that equation, says what comes of it in terms of f.
use Rattle.std.specs.Prelude.{◌≡◌, List, Bool, ◌||◌, ℕ, ◌+◌, ◌*◌}
use Rattle.lists.specs.Lists.{tab}
use Rattle.filled.specs.Filled.{word_of}

-- the set in c words of k digits
abbrev pub words_of : ℕ → ℕ → (ℕ → Bool) → List ℕ
words_of k c f = tab c (λ j. word_of k (λ i. f (k * j + i)))

-- the words that the code has
abbrev pub word_digits : ℕ
word_digits = 64

abbrev pub word_count : ℕ
word_count = 4

-- the set in them
abbrev pub set_of : (ℕ → Bool) → List ℕ
set_of f = words_of word_digits word_count f

-- the numbers that t holds of come into the set s, no others do and none leaves, and it is s' then
pub record Adds (s : List ℕ) (t : ℕ → Bool) (s' : List ℕ) : Type 0 where
  pub adds : (f : ℕ → Bool) → s ≡ set_of f → s' ≡ set_of (λ n. f n || t n)
