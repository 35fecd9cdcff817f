-- `waits` meets its contract. The loop's invariant: nobody stands in the lines passed.
use native.Mathlib.Omega.{arith}
use mathlib.Core.Path.{sym, ◌∙◌}
use Rattle.lists.specs.Known.{known_yes}
use Rattle.table.specs.Choose.{waits_yes, waits_no}
use Rattle.table.proofs.waits.Goals as goal

pub returns-then-is_some : goal.returns-then-is_some
returns-then-is_some c =
    λ d b w. waits_yes c.requires d b w c.loop-q.q c.loop-q.invariant.from (omega (arith, c.loop-q-test.true)) (known_yes c.first.ensures (sym c.is_some.ensures ∙ c.if-is_some.true))

pub returns : goal.returns
returns c =
    λ d b w. waits_no c.requires d b w (λ q h g. let u = c.loop-q.invariant.upto in c.loop-q.invariant.empty q h (omega arith))
