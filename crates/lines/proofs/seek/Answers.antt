-- `seek` meets its contract. The loop's invariant: the cell stands in the line, and p was not met. The measure is what is left of the line. Assumes nothing.
use native.Mathlib.Omega.{arith}
use Rattle.lines.specs.Seek.{walked_in, walked_hit, walked_on, walked_end, walked_less}
use Rattle.lines.proofs.seek.Goals as goal

pub bounds-l-at : goal.bounds-l-at
bounds-l-at c =
    let b = walked_in c.requires.0 c.requires.1 (omega arith) c.loop-at.invariant in
    omega arith

pub bounds-l-at-in-loop-at : goal.bounds-l-at-in-loop-at
bounds-l-at-in-loop-at c =
    let w = c.loop-at in
    let b = walked_in c.requires.0 c.requires.1 (omega arith) w.invariant in
    omega arith

pub returns-then-l-at : goal.returns-then-l-at
returns-then-l-at c =
    let w = c.loop-at in
    walked_hit c.requires.0 c.requires.1 (omega arith) w.invariant c.loop-at-test.true c.if-l-at.true

pub bounds-l-at-in-loop-at-2 : goal.bounds-l-at-in-loop-at-2
bounds-l-at-in-loop-at-2 c =
    let w = c.loop-at in
    let b = walked_in c.requires.0 c.requires.1 (omega arith) w.invariant in
    omega arith

pub loop-at-smaller : goal.loop-at-smaller
loop-at-smaller c =
    let w = c.loop-at in
    walked_less c.requires.0 c.requires.1 (omega arith) w.invariant c.loop-at-test.true

pub loop-at-preserved : goal.loop-at-preserved
loop-at-preserved c =
    let w = c.loop-at in
    walked_on c.requires.0 c.requires.1 (omega arith) w.invariant c.loop-at-test.true c.if-l-at.false

pub returns : goal.returns
returns c =
    let w = c.loop-at in
    walked_end c.requires.0 c.requires.1 (omega arith) w.invariant (omega arith)
