-- `clear` meets its contract. The loop's invariant: the places passed are clean.
use Rattle.table.specs.Clean.{Emptied}
use Rattle.table.proofs.Table.clear.Given as goal

abbrev pub invariant-loop-p : goal.invariant-loop-p
invariant-loop-p l = Emptied l.self.blocks l.self.words l.p
