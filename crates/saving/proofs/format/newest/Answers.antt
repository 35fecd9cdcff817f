-- `newest` meets its contract: the table has the newest edition as its last.
use mathlib.Core.Path.{sym, ◌∙◌}
use Rattle.saving.specs.Editions.{newest_known, known_row}
use Rattle.saving.proofs.format.newest.Goals as goal

pub returns : goal.returns
returns c = c.row_of.ensures ∙ sym (known_row newest_known)
