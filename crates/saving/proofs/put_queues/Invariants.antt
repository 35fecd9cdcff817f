-- `put_queues` meets its contract. The loop's invariant: the places of the queues that are left are left to write.
use Rattle.lists.specs.Sizes.{places}
use Rattle.lines.specs.Lines.{line_of}
use Rattle.saving.specs.Format.{joined}
use Rattle.saving.specs.Queues.{Queueing}
use Rattle.saving.proofs.put_queues.Given as goal

abbrev pub invariant-loop-q : goal.invariant-loop-q
invariant-loop-q l = Queueing (joined (line_of places l.l)) l.fn.row l.initial.w l.w l.q
