-- `filling` meets its contract. The loop's invariant: the word is that of the places passed.
use mathlib.Core.Path.{◌≡◌, sym, ap, ◌∙◌}
use mathlib.Core.Bool.{not}
use native.Mathlib.Numerals.{add-one}
use native.Mathlib.Omega.{arith}
use borrow.Author.Tests.{eq-eqb, ne_eqb}
use Rattle.rules.specs.Model.{places}
use Rattle.filled.specs.Filled.{upto}
use Rattle.filled.specs.Upto.{upto_none, upto_all, upto_in, upto_out}
use Rattle.table.specs.Cells.{stands_at}
use Rattle.audit.proofs.filling.Goals as goal
use Rattle.audit.proofs.filling.Goals.{else-standing_of-ne-EMPTY, then-standing_of-ne-EMPTY}

pub loop-p-init : goal.loop-p-init
loop-p-init c = sym (upto_none places (stands_at c.args.t.now.blocks))

pub loop-p-preserved : goal.loop-p-preserved
loop-p-preserved c =
    let w = c.loop-p in
    let h = c.loop-p-test.true in
    rw add-one (elim c.if-standing_of-ne-EMPTY.branch [
      | then-standing_of-ne-EMPTY v ↦ v.x-is ∙ v.with-x.ensures (upto w.p (stands_at c.args.t.now.blocks)) w.invariant ∙ upto_in places w.p (stands_at c.args.t.now.blocks) (ap not (ne_eqb _ _ (λ z. v.if-standing_of-ne-EMPTY.true (c.standing_of.ensures ∙ z))))
      | else-standing_of-ne-EMPTY v ↦ v.x-is ∙ w.invariant ∙ upto_out places w.p (stands_at c.args.t.now.blocks) (ap not (eq-eqb _ _ (sym c.standing_of.ensures ∙ v.if-standing_of-ne-EMPTY.false)))
    ])

pub returns : goal.returns
returns c =
    let e : c.loop-p.p ≡ places = omega arith in
    c.loop-p.invariant ∙ rw e (upto_all places (stands_at c.args.t.now.blocks))
