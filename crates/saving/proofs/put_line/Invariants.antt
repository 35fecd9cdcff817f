-- `put_line` meets its contract. The loop's invariant: what is left of the line is left to write.
use lib.ListN.{length}
use Rattle.lists.specs.Lists.{KnownBy}
use Rattle.lists.specs.Sizes.{places}
use Rattle.lines.specs.Passes.{left_from}
use Rattle.saving.specs.Lining.{Lining}
use Rattle.saving.proofs.put_line.Given as goal

abbrev pub invariant-loop-next : goal.invariant-loop-next
invariant-loop-next l = KnownBy (Lining l.initial.w l.l l.q l.w) l.next

abbrev pub decreases-loop-next : goal.decreases-loop-next
decreases-loop-next l = length (left_from places l.l l.q l.next)
