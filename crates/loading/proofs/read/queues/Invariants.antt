-- `queues` meets its contract: the places of the queues before line q have joined. Assumes nothing.
use Prim.Native.Nat.{◌+◌, ◌*◌, ◌≤◌}
use Rattle.loading.specs.Reading.{QueuesUpto}
use Rattle.loading.proofs.read.queues.Given as goal

abbrev pub invariant-loop-q : goal.invariant-loop-q
invariant-loop-q l = QueuesUpto l.fn.row l.image l.q l.from l.initial.l l.l × (l.from ≤ 2048 + 256 * l.q)
