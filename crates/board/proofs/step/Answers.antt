-- `step` meets its contract: load's refusal, or what the record comes to.
use Rattle.board.specs.Answers.{step_refused, step_taken}
use Rattle.board.proofs.step.Goals as goal

pub returns-then-from-ne-DONE : goal.returns-then-from-ne-DONE
returns-then-from-ne-DONE c = step_refused c.load-from.ensures c.if-from-ne-DONE.true c.decline.ensures

pub returns : goal.returns
returns c =
    step_taken c.load-from.ensures c.if-from-ne-DONE.false c.take.ensures
