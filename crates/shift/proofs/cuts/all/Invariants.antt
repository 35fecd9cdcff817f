-- There is a mark behind the whole records.
use Rattle.std.proofs.Common.{length, ◌<◌}
use Rattle.shift.proofs.cuts.all.Given as goal

abbrev pub invariant-loop-k : goal.invariant-loop-k
invariant-loop-k l = l.i < length l.marks
