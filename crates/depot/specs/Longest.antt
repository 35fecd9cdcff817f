-- THE LONGEST TEXT: no report is longer than 2,114 bytes, and no text of loads longer than 3,247. Both are reached (Reached.antt).
-- Here stand the words; the laws of them stand in proofs/Longest.antt.
use Rattle.std.specs.Prelude.{ℕ, ◌+◌, ◌*◌}
use Rattle.rules.specs.Model.{places}
use Rattle.depot.specs.Lengths.{load_length, last_length}
use Rattle.depot.specs.declared.Sheet.{Sheet}
use Rattle.depot.specs.declared.Sheet.TheVariants.{Report, Pay}

-- ---- how long they are, line by line

-- `threads 64 ready 0 clock 0`
abbrev pub count_length : ℕ
count_length = 27

-- `253 place 9 receiving from 252` at each of ten places, and a byte more at each of those that have two digits
abbrev pub threads_length : ℕ
threads_length = 10 * 31 + 54 * 32

-- `next stuck`
abbrev pub next_length : ℕ
next_length = 11

-- 2,114 bytes
abbrev pub longest_report : ℕ
longest_report = count_length + threads_length + next_length + last_length

-- `loads 64`
abbrev pub loads_length : ℕ
loads_length = 9

-- 3,247 bytes
abbrev pub longest_loads : ℕ
longest_loads = loads_length + places * load_length + last_length

abbrev pub longest_of : Sheet → ℕ
longest_of Report = longest_report
longest_of Pay = longest_loads
