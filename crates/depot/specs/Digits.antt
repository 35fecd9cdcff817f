-- THE LAWS OF DECIMAL NUMBERS: the digits come of dividing by ten, they mean the number, none of them is a leading zero, and how many there are.
use Rattle.std.specs.Prelude.{◌≡◌, refl, List, [], ◌∷◌, ◌++◌, ℕ, zero, suc, ◌+◌, ◌-◌, ◌*◌, ◌/◌, ◌%◌, ◌^◌, ◌≤◌, ◌<◌, ltb, length}
use Rattle.std.proofs.Common.{sym, ap, ◌∙◌, pow-suc, arith, lt-ltb, le-ltb, ltb-true, ltb-false, length-append}
use Rattle.lists.specs.Lists.{front}
use Rattle.lists.specs.Laws.{by_test}
use Rattle.depot.specs.Text.{ascii}
use Rattle.depot.specs.Decimal.{digit, digits, most, decimal, value_from, value}

-- ---- by dividing by ten
digits_one : (k n : ℕ) → n < 10 → digits (suc k) n ≡ digit (n % 10) ∷ []
unfolding digits
digits_one k n h = rw (lt-ltb n 10 h)

digits_more : (k n : ℕ) → 10 ≤ n → digits (suc k) n ≡ digits k (n / 10) ++ (digit (n % 10) ∷ [])
unfolding digits
digits_more k n h = rw (le-ltb n 10 h)

-- a digit less
pub tenth : (k n : ℕ) → n < 10 ^ suc k → n / 10 < 10 ^ k
tenth k n h = let p = pow-suc 10 k in omega arith

-- the room for a digit more changes nothing
digits_room : (k n : ℕ) → n < 10 ^ suc k → digits (suc (suc k)) n ≡ digits (suc k) n
digits_room zero n h = digits_one 1 n h ∙ sym (digits_one 0 n h)
digits_room (suc k) n h =
    let ih = digits_room k (n / 10) (tenth (suc k) n h) in
    by_test (ltb n 10)
    (λ t. let l = ltb-true n 10 t in digits_one (suc (suc k)) n l ∙ sym (digits_one (suc k) n l))
    (λ t. let l = ltb-false n 10 t in digits_more (suc (suc k)) n l ∙ ap (λ xs. xs ++ (digit (n % 10) ∷ [])) ih ∙ sym (digits_more (suc k) n l))

pub decimal_one : (n : ℕ) → n < 10 → decimal n ≡ digit (n % 10) ∷ []
decimal_one n h = digits_one 9 n h

pub decimal_more : (n : ℕ) → 10 ≤ n → n < 10 ^ most → decimal n ≡ decimal (n / 10) ++ (digit (n % 10) ∷ [])
decimal_more n h l = digits_more 9 n h ∙ ap (λ xs. xs ++ (digit (n % 10) ∷ [])) (sym (digits_room 8 (n / 10) (tenth 9 n l)))

-- ---- what they mean
value_last : (v : ℕ) (xs : List ℕ) (x : ℕ) → value_from v (xs ++ (x ∷ [])) ≡ 10 * value_from v xs + (x - 48)
value_last v [] x = refl
value_last v (y ∷ xs) x = value_last (10 * v + (y - 48)) xs x

value_digits : (k n : ℕ) → n < 10 ^ k → value (digits k n) ≡ n
unfolding digits
value_digits zero n h = omega arith
value_digits (suc k) n h =
    let ih = value_digits k (n / 10) (tenth k n h) in
    by_test (ltb n 10)
    (λ t. let l = ltb-true n 10 t in rw (digits_one k n l) (omega arith))
    (λ t. let l = ltb-false n 10 t in rw (digits_more k n l, value_last 0 (digits k (n / 10)) (digit (n % 10)), ih) (omega arith))

-- the digits of a number mean that number
pub value_decimal : (n : ℕ) → n < 10 ^ most → value (decimal n) ≡ n
value_decimal n h = value_digits most n h

-- ---- that they are digits
-- each is one of `0` to `9`
abbrev pub Glyphs : List ℕ → Type 0
Glyphs [] = Unit {0}
Glyphs (x ∷ xs) = (48 ≤ x) × (x ≤ 57) × Glyphs xs

pub glyphs_append : (xs ys : List ℕ) → Glyphs xs → Glyphs ys → Glyphs (xs ++ ys)
glyphs_append [] ys g h = h
glyphs_append (x ∷ xs) ys g h = (g.0, g.1, glyphs_append xs ys g.2 h)

pub digits_plain : (k n : ℕ) → Glyphs (digits k n)
unfolding digits
digits_plain zero n = tt
digits_plain (suc k) n =
    let ih = digits_plain k (n / 10) in
    let last : Glyphs (digit (n % 10) ∷ []) = (omega arith, omega arith, tt) in
    by_test (ltb n 10)
    (λ t. rw t last)
    (λ t. rw t (glyphs_append (digits k (n / 10)) (digit (n % 10) ∷ []) ih last))

-- ---- how many
-- room does not matter here
digits_length : (j k n : ℕ) → n < 10 ^ suc k → length (digits j n) ≤ suc k
unfolding digits
digits_length zero k n h = omega arith
digits_length (suc j) zero n h = rw (lt-ltb n 10 h) (omega arith)
digits_length (suc j) (suc k) n h =
    let ih = digits_length j k (n / 10) (tenth (suc k) n h) in
    by_test (ltb n 10)
    (λ t. rw t (omega arith))
    (λ t. rw (t, length-append) (omega arith))

digits_some : (k n : ℕ) → 1 ≤ length (digits (suc k) n)
unfolding digits
digits_some k n = rw length-append (omega arith)

-- no more digits than the number needs, ..
pub decimal_length : (k n : ℕ) → 0 < k → n < 10 ^ k → length (decimal n) ≤ k
decimal_length zero n p h = omega arith
decimal_length (suc k) n p h = digits_length most k n h

-- .. and one at least
pub decimal_some : (n : ℕ) → 1 ≤ length (decimal n)
decimal_some n = digits_some 9 n

-- ---- no leading zero
-- 0 is the one digit `0`
pub decimal_zero : decimal 0 ≡ ascii "0"
unfolding digits ascii
decimal_zero = refl

front_append : (xs ys : List ℕ) → 1 ≤ length xs → front (xs ++ ys) ≡ front xs
front_append [] ys h = absurd (omega arith)
front_append (x ∷ xs) ys h = refl

digits_lead : (k n : ℕ) → 0 < n → n < 10 ^ k → front (digits k n) ≡ digit 0 → ⊥
digits_lead zero n p h e = omega arith
digits_lead (suc zero) n p h e = let f = sym (ap front (digits_one 0 n h)) ∙ e in omega arith
digits_lead (suc (suc k)) n p h e =
    let ih = digits_lead (suc k) (n / 10) in
    by_test (ltb n 10)
    (λ t. let l = ltb-true n 10 t in let f = sym (ap front (digits_one (suc k) n l)) ∙ e in omega arith)
    (λ t.
    let l = ltb-false n 10 t in
    let same = front_append (digits (suc k) (n / 10)) (digit (n % 10) ∷ []) (digits_some k (n / 10)) in
    ih (omega arith) (tenth (suc k) n h) (sym same ∙ sym (ap front (digits_more (suc k) n l)) ∙ e))

-- any other number begins with another digit
pub no_leading_zero : (n : ℕ) → 0 < n → n < 10 ^ most → front (decimal n) ≡ digit 0 → ⊥
no_leading_zero n p h = digits_lead most n p h
