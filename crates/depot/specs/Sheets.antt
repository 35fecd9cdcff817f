-- BOTH SHEETS, READ: every word of theirs is plain, so that the lines of a text are read back, for any bytes whatever; how many there are; and what a reader of
-- lines finds among them that passes by all but the places' own.
-- Here stand the words; the laws of them stand in proofs/Sheets.antt.
use Rattle.std.specs.Prelude.{◌≡◌, List, [], ◌∷◌, ◌++◌, Bool, true, false, ℕ}
use Rattle.rules.specs.Model.{Place, Code, Model}
use Rattle.rules.specs.Consistent.{Consistent}
use Rattle.rules.specs.declared.Choice.{Choice}
use Rattle.depot.specs.Text.{Line}
use Rattle.depot.specs.Reads.{picked}
use Rattle.depot.specs.Report.{next_lines, listed, line_for, first_line, last_line, image_refused}
use Rattle.depot.specs.declared.Sheet.{Sheet}

-- A reader of a sheet: which lines it knows, what it makes of one, and what that should be for a place. It knows the places' own lines, and no other of the
-- sheet's texts.
pub record Reader (s : Sheet) (A : Type 0) : Type 0 where
  pub knows : Line → Bool
  pub makes : Line → A
  pub stands : Model → Place → A
  pub own : (m : Model) → Consistent m → (p : Place) → listed s m p ≡ true
      → (knows (line_for s m p) ≡ true) × (makes (line_for s m p) ≡ stands m p)
  pub not_first : (m : Model) → knows (first_line s m) ≡ false
  pub not_next : (x : Choice) (l : Line) → knows l ≡ false → picked knows makes (next_lines s x ++ (l ∷ [])) ≡ []
  pub not_last : (log : List ℕ) → knows (last_line log) ≡ false
  pub not_refused : (c : Code) → knows (image_refused c) ≡ false
