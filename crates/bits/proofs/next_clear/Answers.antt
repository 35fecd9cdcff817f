-- `next_clear` meets its contract: the first up from the one after the last, or, where all of those are in the set, the first up from 0. Assumes nothing.
use native.Mathlib.Omega.{arith}
use Rattle.bits.specs.Search.{next_up, next_round, next_none}
use Rattle.bits.proofs.next_clear.Goals as goal

pub returns-then-up-le-LAST : goal.returns-then-up-le-LAST
returns-then-up-le-LAST c =
    λ f e. next_up f _ c.step-first.ensures (c.first_clear-up.ensures f e) (omega (arith, c.if-up-le-LAST.true))

pub returns-then-low-le-LAST : goal.returns-then-low-le-LAST
returns-then-low-le-LAST c =
    λ f e. next_round f _ c.step-first.ensures (c.first_clear-up.ensures f e) (omega (arith, c.if-up-le-LAST.false))
    (c.first_clear-low.ensures f e) (omega (arith, c.if-low-le-LAST.true))

pub returns : goal.returns
returns c = λ f e. next_none f _ (c.first_clear-low.ensures f e) (omega (arith, c.if-low-le-LAST.false))
