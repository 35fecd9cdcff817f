-- The devices that raise interrupts (document 02, P1; docs 000 and 002), in the document's order and words: their indexes, and a pending set.
use Rattle.std.specs.Prelude.{ℕ, zero, suc, ◌+◌, ◌-◌, ◌*◌, ◌/◌, ◌%◌, ◌≡◌, refl, List, [], ◌∷◌, ◌++◌, map, Bool, cond, ◌||◌, eqb, ltb}
use Rattle.lists.specs.Lists.{none, up_from, first_of}
use Rattle.lists.specs.Sizes.{devices}
use Rattle.rules.specs.declared.Pending.{Pending}
use Rattle.rules.specs.declared.Port.{Port}
use Rattle.rules.specs.declared.Port.TheVariants.{Device, Transmitter, Receiver}

-- ---- Lines 3 to 7, eight devices each, terminals on line 7 with two halves.

-- Index 8 × (line − 3) + device for lines 3 to 6;
abbrev pub on_line : ℕ → ℕ → ℕ
on_line line device = cond (ltb line 3 || (ltb 6 line || ltb 7 device)) none (8 * (line - 3) + device)

abbrev pub of_terminal : ℕ → ℕ → ℕ
of_terminal first terminal = cond (ltb 7 terminal) none (first + 2 * terminal)

-- terminal d transmits at 32 + 2d and receives at 33 + 2d;
abbrev pub index_of : Port → ℕ
index_of (Device line device) = on_line line device
index_of (Transmitter d) = of_terminal 32 d
index_of (Receiver d) = of_terminal 33 d

-- 48 in all, lower index first. The ports by line, by device, and a terminal's transmitter before its receiver:
abbrev pub eight : (ℕ → List Port) → List Port
eight f = f 0 ++ f 1 ++ f 2 ++ f 3 ++ f 4 ++ f 5 ++ f 6 ++ f 7

abbrev pub of_line : ℕ → List Port
of_line line = eight (λ d. Device line d ∷ [])

unfoldable pub ports : List Port
ports = of_line 3 ++ of_line 4 ++ of_line 5 ++ of_line 6 ++ eight (λ d. Transmitter d ∷ Receiver d ∷ [])

-- their indexes are 0, 1, .., 47: all different, and in this order
pub port_indexes : map index_of ports ≡ up_from 0 devices
unfolding ports
port_indexes = refl

-- ---- A pending set of six bytes, index 0 lowest.

-- is digit i of a number 1
abbrev pub digit : ℕ → ℕ → Bool
digit zero n = eqb (n % 2) 1
digit (suc i) n = digit i (n / 2)

-- the low digits are in `low`
abbrev pub low_digits : ℕ
low_digits = 32

abbrev pub pends : Pending → ℕ → Bool
pends s i = cond (ltb i low_digits) (digit i s.low) (digit (i - low_digits) s.high)

-- every device, lower index first
unfoldable pub all_devices : List ℕ
all_devices = up_from 0 devices

-- the first pending index, or none
abbrev pub first_pending : Pending → ℕ
first_pending s = first_of (pends s) all_devices
