-- The image, written: what the writer is held to, and how its parts make it.
-- Here stand the words; the laws of them stand in proofs/Written.antt.
use Rattle.std.specs.Prelude.{ℕ, ◌+◌, ◌≤◌, ◌≡◌, length}
use mathlib.Core.List.{List, ◌∷◌, ◌++◌}
use Rattle.std.proofs.Math.ListN.{drop}
use Rattle.lists.specs.Sizes.{queue_count}
use Rattle.lists.specs.Bytes.{two_bytes}
use Rattle.lines.specs.Lines.{line_of, Tidy}
use Rattle.rules.specs.Model.{places, line_count, Model}
use Rattle.table.specs.declared.Arrays.{Arrays}
use Rattle.saving.specs.Format.{head_length, queues_in, sizes, joined, first_body, encode_as}
use Rattle.saving.specs.Longest.{longest_image}
use Rattle.saving.specs.Parts.{held, bodies_in, contents_in, tail_in}
use Rattle.saving.specs.Puts.{HasRoom}
use Rattle.saving.specs.declared.format.Row.{Row}
use Rattle.saving.specs.declared.writer.Writer.{Writer}

-- The image of m, in the edition of the row, is written into s: now it is t, and every byte past the image is as it was. Its length is r.
pub record Written (row : Row) (m : Model) (s t : List ℕ) (r : ℕ) : Type 0 where
  pub size : r ≡ length (encode_as row m)
  pub bytes : t ≡ encode_as row m ++ drop r s

-- what the contents ask for
pub record PutsContents (row : Row) (a : Arrays) (v : Writer) (o : ℕ) : Type 0 where
  pub lines : Tidy places line_count a.lines
  pub room : HasRoom v (contents_in row a o)
  pub low : o + length (bodies_in row a) ≤ longest_image

-- and all behind the head
pub record PutsTail (row : Row) (a : Arrays) (v : Writer) (o : ℕ) : Type 0 where
  pub lines : Tidy places line_count a.lines
  pub few : row.queues ≤ queue_count
  pub first : o ≡ first_body row (held a)
  pub room : HasRoom v (tail_in row a)
  pub low : head_length row + length (tail_in row a) ≤ longest_image

-- the lengths of a row's queues in the array of lines, and their places
abbrev pub lengths_in : Row → List ℕ → List ℕ
lengths_in row l = sizes (line_of places l) (queues_in row)

abbrev pub waiting_in : Row → List ℕ → List ℕ
waiting_in row l = joined (line_of places l) (queues_in row)

abbrev pub head_of : Row → ℕ → ℕ → ℕ → List ℕ → ℕ → List ℕ
head_of row y x n ls k = row.edition ∷ y ∷ x ∷ n ∷ ls ++ two_bytes k
