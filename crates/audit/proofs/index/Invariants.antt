-- `index` meets its contract. The loop's invariant: the places passed are in the index.
use Rattle.audit.specs.Loops.{Indexed}
use Rattle.audit.proofs.index.Given as goal

abbrev pub invariant-loop-p : goal.invariant-loop-p
invariant-loop-p l = Indexed l.t.blocks l.who l.p
