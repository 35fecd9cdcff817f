-- `ends` meets its contract. The loop's invariant: the walk from p has come to r. At each step one place fewer has no stamp.
use Rattle.lists.specs.Lists.{count}
use Rattle.audit.specs.Rings.{Walk}
use Rattle.audit.proofs.ends.Given as goal

abbrev pub invariant-loop-r : goal.invariant-loop-r
invariant-loop-r l = Walk l.t.blocks l.who l.stamps l.p l.r

abbrev pub decreases-loop-r : goal.decreases-loop-r
decreases-loop-r l = count 0 l.stamps
