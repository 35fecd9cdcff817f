-- `first_clear` meets its contract: all from n on that are below what the loop has come to are in the set. Assumes nothing.
use native.Mathlib.Omega.{arith}
use Rattle.bits.specs.Search.{turn_found, turn_none, through, zeros_fit}
use Rattle.bits.proofs.first_clear.Goals as goal

pub loop-at-init : goal.loop-at-init
loop-at-init c = (omega arith, λ f e i a b. absurd (omega arith))

pub overflow_cast-zeros : goal.overflow_cast-zeros
overflow_cast-zeros c = zeros_fit _

pub returns-then-zeros-lt-DIGITS : goal.returns-then-zeros-lt-DIGITS
returns-then-zeros-lt-DIGITS c =
    λ f e. turn_found _ f e _ c.loop-at-test.true _ (c.loop-at.invariant.1 f e) c.loop-at.invariant.0 c.if-zeros-lt-DIGITS.true

pub loop-at-preserved : goal.loop-at-preserved
loop-at-preserved c =
    (omega arith, λ f e. turn_none _ f e _ c.loop-at-test.true _ (c.loop-at.invariant.1 f e) c.if-zeros-lt-DIGITS.false)

pub returns : goal.returns
returns c =
    λ f e. through f _ _ c.loop-at.invariant.0 (omega arith) (c.loop-at.invariant.1 f e)
