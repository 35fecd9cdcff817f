-- `filling` meets its contract. The loop's invariant: the word is that of the places passed.
use mathlib.Core.Path.{◌≡◌}
use Rattle.rules.specs.Model.{places}
use Rattle.filled.specs.Filled.{word_of, upto}
use Rattle.table.specs.Cells.{stands_at}
use Rattle.audit.proofs.filling.Given as goal

abbrev pub invariant-loop-p : goal.invariant-loop-p
invariant-loop-p l = l.x ≡ word_of places (upto l.p (stands_at l.t.blocks))
