-- `put_lengths` meets its contract. The loop's invariant: the lengths of the queues that are left are left to write.
use Rattle.lists.specs.Sizes.{places}
use Rattle.lines.specs.Lines.{line_of}
use Rattle.saving.specs.Format.{sizes}
use Rattle.saving.specs.Queues.{Queueing}
use Rattle.saving.proofs.put_lengths.Given as goal

abbrev pub invariant-loop-q : goal.invariant-loop-q
invariant-loop-q l = Queueing (sizes (line_of places l.l)) l.fn.row l.initial.w l.w l.q
