-- What the writer's functions come to, where that rests on a law of the text: the count line of what was counted.
use Rattle.std.specs.Prelude.{◌≡◌, List, [], ◌∷◌, ◌++◌, Bool, ℕ}
use Rattle.lists.specs.Lists.{tally}
use Rattle.filled.specs.Filled.{width, word_of}
use Rattle.table.specs.Cells.{Filled}
use Rattle.rules.specs.Model.{Ready, Waiting}
use Rattle.depot.specs.Text.{ascii, newline, line_bytes}
use Rattle.depot.specs.Report.{how_many, count_line}
use Rattle.depot.specs.Writing.{crew_of}
use Rattle.depot.specs.Decimal.{decimal}
use Rattle.depot.specs.Puts.{live_count, count_bytes}

-- the count line, in the parts in which it is written, where the live are counted in the filled set
pub counted_bytes : (b w : List ℕ) {x n r c : ℕ} → Filled x b → ((f : ℕ → Bool) → x ≡ word_of width f → n ≡ tally width f)
    → r ≡ how_many (crew_of b w) Ready → c ≡ how_many (crew_of b w) Waiting
    → line_bytes (count_line (crew_of b w)) ≡ (ascii "threads " ++ decimal n) ++ ((ascii " ready " ++ decimal r) ++ (ascii " clock " ++ (decimal c ++ (newline ∷ []))))
counted_bytes b w k e f g = count_bytes (crew_of b w) (live_count b w k e) f g
