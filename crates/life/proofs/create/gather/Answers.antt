-- `gather` meets its contract: the numbers that the places below p bar are in the set.
use Rattle.life.specs.Gather.{gather_none, gather_more}
use Rattle.life.proofs.create.gather.Goals as goal

pub loop-p-init : goal.loop-p-init
loop-p-init c = gather_none _

pub loop-p-preserved : goal.loop-p-preserved
loop-p-preserved c = gather_more _ _ c.loop-p.invariant c.bar.ensures
