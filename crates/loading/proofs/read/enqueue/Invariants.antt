-- `enqueue` meets its contract: of the places the first i have joined. Assumes nothing.
use Rattle.loading.specs.Reading.{Joined}
use Rattle.loading.proofs.read.enqueue.Given as goal

abbrev pub invariant-loop-i : goal.invariant-loop-i
invariant-loop-i l = Joined l.image l.from l.count l.q l.i l.initial.l l.l
