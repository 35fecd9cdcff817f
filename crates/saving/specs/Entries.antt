-- The contents and the bodies, place by place: what the code that writes one place is held to.
-- Here stand the words; the laws of them stand in proofs/Entries.antt.
use Rattle.std.specs.Prelude.{ℕ, ◌+◌, ◌≤◌, ◌<◌, ◌≡◌, length}
use Rattle.lines.specs.Lines.{Tidy}
use Rattle.rules.specs.Model.{Place, places, line_count, Model}
use Rattle.table.specs.declared.Arrays.{Arrays}
use Rattle.saving.specs.Format.{bodies, contents}
use Rattle.saving.specs.Longest.{longest_image}
use Rattle.saving.specs.Parts.{held, here, body_in}
use Rattle.saving.specs.Puts.{HasRoom, Puts}
use Rattle.saving.specs.declared.format.Row.{Row}
use Rattle.saving.specs.declared.writer.Writer.{Writer}

-- the entry of p, if it lives, was written, for a body at o; now the next body is at u
pub record EntryPut (row : Row) (m : Model) (p : Place) (v : Writer) (o : ℕ) (w : Writer) (u : ℕ) : Type 0 where
  pub puts : Puts v (contents row m o (here m p)) w
  pub body : u ≡ o + length (bodies row m (here m p))

-- what that asks for
pub record PutsEntry (row : Row) (a : Arrays) (p : Place) (v : Writer) (o : ℕ) : Type 0 where
  pub lines : Tidy places line_count a.lines
  pub place : p < places
  pub room : HasRoom v (contents row (held a) o (here (held a) p))
  pub low : o + length (body_in row a p) ≤ longest_image
