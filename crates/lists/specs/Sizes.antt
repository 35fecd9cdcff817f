-- How many places, devices and lines there are: the numbers behind the code's constants PLACES, DEVICES, QUEUES, LINES and CELLS. No law names a number:
-- the laws of lines hold for any P places and N lines, and those of threads for `places`, whatever it is.
use Rattle.std.specs.Prelude.{ℕ, ◌+◌}

-- 64 places, 0 to 63 (document 02, P6)
abbrev pub places : ℕ
places = 64

-- 48 devices: eight on each of the lines 3 to 6, and on line 7 eight terminals with two halves each (docs 000 and 002)
abbrev pub devices : ℕ
devices = 48

-- the queues: ready, the clock's, and one for each device
abbrev pub queue_count : ℕ
queue_count = 2 + devices

-- every queue is a line, and behind the queues each place has one, its inbox
abbrev pub line_count : ℕ
line_count = queue_count + places

-- the bytes that the lines take: one for each place, and two for each line
abbrev pub cells : ℕ
cells = places + line_count + line_count
