-- `bring` meets its contract: load's refusal, or what the log comes to.
use Rattle.board.specs.Answers.{bring_refused, bring_played}
use Rattle.board.proofs.bring.Goals as goal

pub returns-then-from-ne-DONE : goal.returns-then-from-ne-DONE
returns-then-from-ne-DONE c = bring_refused c.load-from.ensures c.if-from-ne-DONE.true c.unplay.ensures

pub returns : goal.returns
returns c =
    bring_played c.load-from.ensures c.if-from-ne-DONE.false c.play.ensures
