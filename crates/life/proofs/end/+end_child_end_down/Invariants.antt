-- A child ends with one less of depth, so the measure is twice the depth, and one more for `end_child`, which passes the depth on.
use Rattle.std.proofs.Common.{◌+◌}
use Rattle.life.specs.Family.{SweepingIn}
use Rattle.life.proofs.end.+end_child_end_down.Given as goal

abbrev pub decreases-end_child : goal.decreases-end_child
decreases-end_child l = l.depth + l.depth + 1

abbrev pub decreases-end_down : goal.decreases-end_down
decreases-end_down l = l.depth + l.depth

abbrev pub invariant-end_down-loop-r : goal.invariant-end_down-loop-r
invariant-end_down-loop-r l = SweepingIn l.depth l.p.0 l.initial.e l.initial.a l.e l.a l.r
