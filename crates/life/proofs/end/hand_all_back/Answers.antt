-- `hand_all_back` meets its contract: what is left of the inbox is left to do.
use Rattle.life.specs.Drain.{drain_again, drain_end}
use Rattle.life.proofs.end.hand_all_back.Goals as goal

pub loop-n-preserved : goal.loop-n-preserved
loop-n-preserved c = drain_again c.loop-n.invariant c.hand_back.ensures c.loop-n-test.true

pub returns : goal.returns
returns c = drain_end c.loop-n.invariant c.hand_back.ensures c.requires.2 c.loop-n-test.false
