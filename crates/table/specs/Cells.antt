-- The lent arrays, and the rules' model that they stand for.
use Rattle.std.specs.Prelude.{◌≡◌, refl, List, Bool, true, not, ℕ, ◌+◌, ◌*◌, eqb, length, get_or}
use Rattle.lists.specs.Lists.{tab}
use Rattle.lines.specs.Lines.{line_of, Tidy}
use Rattle.filled.specs.Filled.{word_of}
use Rattle.rules.specs.Model as Rules
use Rattle.rules.specs.Model.{places, queue_count, line_count, Empty, Model}
use Rattle.rules.specs.Consistent.{ConsistentBy}
use Rattle.table.specs.declared.Arrays.{Arrays}
use Rattle.table.specs.declared.Desk.{Desk}
use Rattle.table.specs.declared.Thread.{Thread}

-- field k of place p
abbrev pub cell : ℕ → ℕ → ℕ
cell k p = k * places + p

-- the rows: six of bytes, two of words
abbrev pub byte_rows : ℕ
byte_rows = 6

abbrev pub word_rows : ℕ
word_rows = 2

-- the code's INBOX_LINES: the lines before the inboxes, which are the queues
abbrev pub inbox_lines : ℕ
inbox_lines = queue_count

pub inbox_line : (p : ℕ) → inbox_lines + p ≡ Rules.inbox p
inbox_line p = refl

-- the thread at p: its bytes and its words
abbrev pub thread_of : List ℕ → List ℕ → ℕ → Rules.Thread
thread_of b w p = record {
  number = get_or b (cell 0 p) 0;
  standing = get_or b (cell 1 p) 0;
  partner = get_or b (cell 2 p) 0;
  word = get_or w (cell 0 p) 0;
  code = get_or b (cell 3 p) 0;
  who = get_or b (cell 4 p) 0;
  answer = get_or w (cell 1 p) 0;
  parent = get_or b (cell 5 p) 0;
}

-- the model of the last number given, the running place and the three arrays
abbrev pub model_of : ℕ → ℕ → List ℕ → List ℕ → List ℕ → Model
model_of y x b w l = record { last = y; running = x; threads = tab places (thread_of b w); lines = tab line_count (line_of places l) }

-- the model of a desk and the three arrays
abbrev pub shown : Desk → List ℕ → List ℕ → List ℕ → Model
shown d b w l = model_of d.last.0 d.running.0 b w l

-- the arrays have their sizes, and the lines are tidy
pub record Whole (b w l : List ℕ) : Type 0 where
  pub blocks : length b ≡ byte_rows * places
  pub words : length w ≡ word_rows * places
  pub lines : Tidy places line_count l

-- does a thread stand at p
abbrev pub stands_at : List ℕ → ℕ → Bool
stands_at b p = not (eqb (get_or b (cell 1 p) 0) Empty)

-- The set of filled places is one 64-bit word: the word of the places where a thread stands
abbrev pub Filled : ℕ → List ℕ → Type 0
Filled x b = x ≡ word_of places (stands_at b)

-- The desk and the arrays are a consistent nucleus: laid out in order, and of a consistent model. What lies in a line is in order, what does not is
-- clean (Tidy), and a clean place is clean in every row (Consistent, `clean`); so no two layouts have the same model (Rows; `settled` of the nucleus).
-- By the rules as they are, or (strict is false) by the old ones.
pub record StandsBy (strict : Bool) (d : Desk) (b w l : List ℕ) : Type 0 where
  pub whole : Whole b w l
  pub filled : Filled d.filled b
  pub consistent : ConsistentBy strict (shown d b w l)

abbrev pub Stands : Desk → List ℕ → List ℕ → List ℕ → Type 0
Stands d b w l = StandsBy true d b w l

-- The same words of the arrays as they are lent
abbrev pub shown_in : Desk → Arrays → Model
shown_in d a = shown d a.table.blocks a.table.words a.lines

abbrev pub WholeIn : Arrays → Type 0
WholeIn a = Whole a.table.blocks a.table.words a.lines

abbrev pub StandsByIn : Bool → Desk → Arrays → Type 0
StandsByIn strict d a = StandsBy strict d a.table.blocks a.table.words a.lines

abbrev pub StandsIn : Desk → Arrays → Type 0
StandsIn d a = StandsByIn true d a

-- The desk with x running
abbrev pub running : ℕ → Desk → Desk
running x d = record { filled = d.filled; last = d.last; running = record { 0 = x } }

-- the code's thread, as the rules have it
abbrev pub as_thread : Thread → Rules.Thread
as_thread t = record {
  number = t.number.0;
  standing = t.standing;
  partner = t.partner.0;
  word = t.word;
  code = t.answer.code;
  who = t.answer.who.0;
  answer = t.answer.word;
  parent = t.parent.0;
}
