-- `is_deserted` meets its contract: it goes by the cases of the test.
use mathlib.Core.Path.{refl, sym, ap, ◌∙◌}
use native.Mathlib.Omega.{arith}
use Rattle.std.specs.Prelude.{is_some}
use Rattle.updating.specs.Deserted.{lost}
use Rattle.updating.specs.Deserted.{not_receiving, from_any, from_named}
use Rattle.updating.proofs.is_deserted.Goals as goal

pub returns-then-standing_of-ne-RECEIVING : goal.returns-then-standing_of-ne-RECEIVING
returns-then-standing_of-ne-RECEIVING c =
    not_receiving c.args.t.now.blocks c.args.p.0 c.standing_of.ensures c.if-standing_of-ne-RECEIVING.true

pub returns-then-n : goal.returns-then-n
returns-then-n c =
    from_any c.args.t.now.blocks c.args.p.0 c.standing_of.ensures (omega (arith, c.if-standing_of-ne-RECEIVING.false)) c.partner_of-n.ensures c.if-n.true

pub returns : goal.returns
returns c =
    lost _ (sym (ap is_some c.find.ensures) ∙ c.is_none.ensures)
    ∙ from_named c.args.t.now.blocks c.args.p.0 c.standing_of.ensures (omega (arith, c.if-standing_of-ne-RECEIVING.false)) c.partner_of-n.ensures c.if-n.false refl
