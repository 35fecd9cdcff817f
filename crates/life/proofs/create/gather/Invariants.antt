-- `gather` meets its contract: the numbers that the places below p bar are in the set.
use Rattle.bits.specs.Set.{Adds}
use Rattle.life.specs.Number.{bars_from}
use Rattle.life.proofs.create.gather.Given as goal

abbrev pub invariant-loop-p : goal.invariant-loop-p
invariant-loop-p l = Adds l.initial.s (λ n. bars_from l.t.blocks n 0 l.p) l.s
