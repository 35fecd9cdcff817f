-- The set of filled places in one word: place p is filled where digit p of the word is 1. A set is a test on places, and a word stands for its first k answers.
-- How to use it: keep `x ≡ word_of width f`, with f the test whether a place is filled. Each function's contract, given f and that equation, says what the answer is in terms of f.
use Rattle.std.specs.Prelude.{Bool, true, false, cond, ◌&&◌, ℕ, zero, suc, ◌+◌, ◌*◌, eqb, ltb}
use Rattle.lists.specs.Lists.{bit}

-- how many places the code's word has room for
abbrev pub width : ℕ
width = 64

-- the word of the places below k that f holds of. (No abbrev: at a numeral k it would unfold k deep wherever it stands.)
unfoldable pub word_of : ℕ → (ℕ → Bool) → ℕ
word_of zero f = 0
word_of (suc k) f = bit (f zero) + 2 * word_of k (λ i. f (suc i))

-- the set with p
abbrev pub including : ℕ → (ℕ → Bool) → ℕ → Bool
including p f i = cond (eqb i p) true (f i)

-- the set less p
abbrev pub excluding : ℕ → (ℕ → Bool) → ℕ → Bool
excluding p f i = cond (eqb i p) false (f i)

-- the part of the set that is below n
abbrev pub upto : ℕ → (ℕ → Bool) → ℕ → Bool
upto n f i = ltb i n && f i

-- the lowest place that is not in the set; k where all below k are
unfoldable pub lowest_out : ℕ → (ℕ → Bool) → ℕ
lowest_out zero f = 0
lowest_out (suc k) f = cond (f zero) (suc (lowest_out k (λ i. f (suc i)))) 0
