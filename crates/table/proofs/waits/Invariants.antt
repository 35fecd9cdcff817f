-- `waits` meets its contract. The loop's invariant: nobody stands in the lines passed.
use Rattle.table.specs.Choose.{NoneUpTo}
use Rattle.table.proofs.waits.Given as goal

abbrev pub invariant-loop-q : goal.invariant-loop-q
invariant-loop-q l = NoneUpTo l.l l.q
