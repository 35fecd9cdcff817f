-- `carry` meets its contract: load's refusal, or the image after the update.
use Rattle.board.specs.Answers.{carry_refused, carry_taken}
use Rattle.board.proofs.carry.Goals as goal

pub returns-then-from-ne-DONE : goal.returns-then-from-ne-DONE
returns-then-from-ne-DONE c = carry_refused c.update-from.ensures c.if-from-ne-DONE.true c.uncarry.ensures

pub returns : goal.returns
returns c =
    carry_taken c.update-from.ensures c.if-from-ne-DONE.false c.carry_to.ensures
