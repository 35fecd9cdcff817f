-- `ends` meets its contract. The loop's invariant: the walk from p has come to r. At each step one place fewer has no stamp.
use native.Mathlib.Omega.{arith}
use borrow.Author.Rules.{rules}
use borrow.Author.Tests.{eqb-true, eqb-false, not-true, not-false}
use Rattle.lists.specs.Tells.{tells_yes}
use Rattle.audit.specs.Rings.{fewer, walk_from, walk_on, walk_ends, walk_ring}
use Rattle.audit.proofs.ends.Goals as goal

pub overflow_add-own : goal.overflow_add-own
overflow_add-own c = let h = c.requires.0 in record { fits = omega arith }

pub loop-r-init : goal.loop-r-init
loop-r-init c = walk_from c.requires.0 c.requires.2

pub returns-then-stamp-ne0 : goal.returns-then-stamp-ne0
returns-then-stamp-ne0 c =
    let v = c.loop-r in
    let h = c.loop-r-test.true in
    record {
      yes = λ e. walk_ends v.invariant c.requires.2 (v.invariant.known v.r h c.if-stamp-ne0.true (eqb-false _ _ (not-true _ e))).1;
      no = λ e. walk_ring v.invariant h (eqb-true _ _ (not-false _ e));
    }

pub loop-r-smaller : goal.loop-r-smaller
loop-r-smaller c =
    let v = c.loop-r in
    let h = c.loop-r-test.true in
    let o = v.invariant.room in
    fewer v.stamps v.r _ (omega arith) c.if-stamp-ne0.false (λ z. omega arith)

pub loop-r-preserved : goal.loop-r-preserved
loop-r-preserved c =
    rw c.parent_of.ensures (walk_on c.loop-r.invariant c.requires.1 c.loop-r-test.true c.if-stamp-ne0.false (search rules))

pub returns : goal.returns
returns c =
    let v = c.loop-r in
    tells_yes (walk_ends v.invariant c.requires.2 (0, v.invariant.top c.loop-r-test.false))
