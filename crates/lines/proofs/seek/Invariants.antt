-- `seek` meets its contract. The loop's invariant: the cell stands in the line, and p was not met. The measure is what is left of the line. Assumes nothing.
use lib.ListN.{length}
use Rattle.lines.specs.Lines.{walk}
use Rattle.lines.specs.Steps.{Walked}
use Rattle.lists.specs.Sizes.{places}
use Rattle.lines.proofs.seek.Given as goal

abbrev pub invariant-loop-at : goal.invariant-loop-at
invariant-loop-at l = Walked places l.l l.q l.p l.at

abbrev pub decreases-loop-at : goal.decreases-loop-at
decreases-loop-at l = length (walk places l.l l.at)
