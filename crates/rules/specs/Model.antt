-- The nucleus as the rules see it (document 01, "The cab's threads", and document 02, P1 and P5): threads by place, and a list of places for each line.
use Rattle.std.specs.Prelude.{ℕ, ◌+◌, List, [], Bool, not, get_or, eqb}
use Rattle.lists.specs.Lists.{up_from, tally}
use Rattle.rules.specs.Values.{nobody}
-- 64 places, 0 to 63 (document 02, P6). Each is empty or holds one thread. 48 devices. And the lines, below: the queues, and an inbox for each place.
pub use Rattle.lists.specs.Sizes.{places, devices, queue_count, line_count}

-- A thread number, a place and a device's index are different kinds and may not be mixed: each has a type of its own in the code, and here a name of its own.
abbrev pub Place : Type 0
Place = ℕ

abbrev pub Number : Type 0
Number = ℕ

abbrev pub Device : Type 0
Device = ℕ

-- a standing, an answer's code
abbrev pub Code : Type 0
Code = ℕ

abbrev pub Word : Type 0
Word = ℕ

-- Thread numbers run 0 to 253. 255 means nobody, or anyone; 254 is never used.
abbrev pub last_number : ℕ
last_number = 253

-- The standings: the table of document 01. Standing 0 is that of an empty place.
abbrev pub Empty : ℕ
Empty = 0

abbrev pub Running : ℕ
Running = 1

abbrev pub Ready : ℕ
Ready = 2

-- sending, in the partner's inbox
abbrev pub Sending : ℕ
Sending = 3

-- received, awaiting reply
abbrev pub Awaiting : ℕ
Awaiting = 4

abbrev pub Receiving : ℕ
Receiving = 5

-- waiting for the clock
abbrev pub Waiting : ℕ
Waiting = 6

-- waiting at a device
abbrev pub AtDevice : ℕ
AtDevice = 7

-- A thread holds: its number; its standing; a partner (a number or 255; in standing 7 a device's index); a 32-bit word; an inbox (a line, below);
-- the answer to its last finished call: code, who, word (here `answer`); and a parent: the number running at its creation, or 255.
pub record Thread : Type 0 where
  pub number : Number
  pub standing : Code
  pub partner : Number
  pub word : Word
  pub code : Code
  pub who : Number
  pub answer : Word
  pub parent : Number

-- An empty place holds one fixed clean value.
abbrev pub vacant : Thread
vacant = record { number = nobody; standing = Empty; partner = nobody; word = 0; code = 0; who = nobody; answer = 0; parent = nobody }

-- The last number given, the running place (or none), the threads by place, and the lines: lists of places, front first.
pub record Model : Type 0 where
  pub last : Number
  pub running : Place
  pub threads : List Thread
  pub lines : List (List Place)

-- The lines are the ready queue, the clock queue, the queue of each device and the inbox of each place: every queue is one, and what is true of all is said
-- once.
abbrev pub ready : ℕ
ready = 0

abbrev pub clock : ℕ
clock = 1

abbrev pub device : Device → ℕ
device i = 2 + i

abbrev pub inbox : Place → ℕ
inbox p = queue_count + p

-- what stands at a place, and in a line; past the last there is nothing
abbrev pub thread : Model → Place → Thread
thread m p = get_or m.threads p vacant

abbrev pub line : Model → ℕ → List Place
line m q = get_or m.lines q []

-- every place, by rising place. (No abbrev: it would be written out wherever it stands.)
unfoldable pub all_places : List Place
all_places = up_from 0 places

abbrev pub lives_at : Model → Place → Bool
lives_at m p = not (eqb (thread m p).standing Empty)

-- The live count. (The set of filled places as one 64-bit word, of which it is the ones: `Filled` of crate `table`.)
abbrev pub live : Model → ℕ
live m = tally places (lives_at m)
