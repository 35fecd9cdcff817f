-- `measure` meets its contract. The loop's invariant: what was counted and what is left is the line.
use lib.ListN.{length}
use Rattle.lists.specs.Lists.{KnownBy}
use Rattle.lists.specs.Sizes.{places}
use Rattle.lines.specs.Passes.{left_from, Counting}
use Rattle.saving.proofs.measure.Given as goal

abbrev pub invariant-loop-next : goal.invariant-loop-next
invariant-loop-next l = KnownBy (Counting places l.l l.q l.n) l.next

abbrev pub decreases-loop-next : goal.decreases-loop-next
decreases-loop-next l = length (left_from places l.l l.q l.next)
