-- `ends` meets its contract. The loop's invariant: each place passed that has no mark holds none. Assumes nothing.
use native.Mathlib.Omega.{arith}
use Rattle.lists.specs.Tells.{tells_yes, tells_no}
use Rattle.lines.specs.Test.{all_known, bad_bare}
use Rattle.lines.proofs.ends.Goals as goal

pub returns-then-l-p : goal.returns-then-l-p
returns-then-l-p c =
    tells_no λ z. bad_bare c.requires (omega arith) c.loop-p.p c.loop-p-test.true c.if-seen-p.true c.if-l-p.true z

pub returns : goal.returns
returns c =
    tells_yes (all_known c.requires (omega arith) c.told-l (λ p h. c.loop-p.invariant p (omega arith)) (omega arith))
