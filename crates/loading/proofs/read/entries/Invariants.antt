-- `entries` meets its contract: the first i entries have been read. Assumes nothing.
use Rattle.loading.specs.Reading.{Entered}
use Rattle.loading.proofs.read.entries.Given as goal

abbrev pub invariant-loop-i : goal.invariant-loop-i
invariant-loop-i l = Entered l.row l.image 0 l.i l.initial.a l.a
