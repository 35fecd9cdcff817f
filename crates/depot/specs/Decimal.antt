-- A NUMBER IN DECIMAL: its digits, the highest first.
use Rattle.std.specs.Prelude.{List, [], ◌∷◌, ◌++◌, cond, ℕ, zero, suc, ◌+◌, ◌-◌, ◌*◌, ◌/◌, ◌%◌, ltb}

-- The code of a digit in ASCII: `0` is 48.
abbrev pub digit : ℕ → ℕ
digit d = 48 + d

-- The digits of n, of which it has no more than k: those of n / 10, where that is not 0, and then that of n % 10.
unfoldable pub digits : ℕ → ℕ → List ℕ
digits zero n = []
digits (suc k) n = cond (ltb n 10) [] (digits k (n / 10)) ++ (digit (n % 10) ∷ [])

-- Ten digits hold every number of 32 bits, and so every number of a text.
abbrev pub most : ℕ
most = 10

abbrev pub decimal : ℕ → List ℕ
decimal n = digits most n

-- the number that digits mean
abbrev pub value_from : ℕ → List ℕ → ℕ
value_from v [] = v
value_from v (x ∷ xs) = value_from (10 * v + (x - 48)) xs

abbrev pub value : List ℕ → ℕ
value xs = value_from 0 xs
