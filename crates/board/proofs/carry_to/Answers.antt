-- `carry_to` meets its contract: 7, or the image of the state.
use mathlib.Core.Path.{refl}
use native.Mathlib.Omega.{arith}
use Rattle.board.specs.Answers.{carry_short, carry_done, carry_narrow}
use Rattle.board.proofs.carry_to.Goals as goal

pub returns-then-saved-ne-DONE : goal.returns-then-saved-ne-DONE
returns-then-saved-ne-DONE c =
    carry_short c.args.s c.requires c.args.out.now c.choose-x.ensures c.keep-saved.ensures c.if-saved-ne-DONE.true c.uncarry.ensures

pub overflow_cast-result : goal.overflow_cast-result
overflow_cast-result c =
    omega (arith, carry_narrow c.args.s c.requires c.args.out.now c.choose-x.ensures c.keep-saved.ensures)

pub returns : goal.returns
returns c =
    carry_done c.args.s c.requires c.args.out.now c.choose-x.ensures c.keep-saved.ensures c.if-saved-ne-DONE.false
    c.kind.ensures c.runs.ensures refl
