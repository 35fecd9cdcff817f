-- `find` meets its contract: whom a search from here on finds is whom the whole search finds.
use mathlib.Core.Path.{sym, ap, ◌∙◌}
use native.Mathlib.Omega.{arith}
use Rattle.rules.specs.Values.{place_known}
use Rattle.rules.specs.Known.{place_at}
use Rattle.verbs.specs.Find.{found_past, found_here, found_dead, found_other}
use Rattle.verbs.proofs.address.find.Goals as goal
use Rattle.verbs.proofs.address.find.Goals.{else-t-i-ne-EMPTY, then-t-i-ne-EMPTY+else-t-i}

pub returns-then-t-i : goal.returns-then-t-i
returns-then-t-i c =
    place_at (c.loop-i.invariant ∙ found_here _ _ _ c.loop-i-test.true c.if-t-i-ne-EMPTY.true c.if-t-i.true) (omega (arith, c.loop-i-test.true))

pub loop-i-preserved : goal.loop-i-preserved
loop-i-preserved c =
    c.loop-i.invariant ∙ elim c.if-t-i-ne-EMPTY.branch [
      | then-t-i-ne-EMPTY+else-t-i w ↦ found_other _ _ _ c.loop-i-test.true w.if-t-i-ne-EMPTY.true w.if-t-i.false
      | else-t-i-ne-EMPTY w ↦ found_dead _ _ _ c.loop-i-test.true (omega (arith, w.if-t-i-ne-EMPTY.false))
    ]

pub returns : goal.returns
returns c = ap place_known (sym (c.loop-i.invariant ∙ found_past _ _ _ (omega arith)))
