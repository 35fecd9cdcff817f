-- `mark` meets its contract. The loop's invariant: the lines before q are good, line q is good as far as the cell, and the marks are of what was passed. The measure is the number of places with no mark. Assumes nothing.
use Rattle.lines.specs.Steps.{Scan, bare}
use Rattle.lists.specs.Sizes.{places, line_count}
use Rattle.lines.proofs.mark.Given as goal

abbrev pub invariant-loop-at : goal.invariant-loop-at
invariant-loop-at l = Scan places line_count l.l l.seen l.q l.at

abbrev pub decreases-loop-at : goal.decreases-loop-at
decreases-loop-at l = bare l.seen
