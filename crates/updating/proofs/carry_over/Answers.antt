-- `carry_over` meets its contract: what the two steps have made of the arrays is what the rule says.
use Rattle.updating.specs.CarriesOver.{starts, carries_over}
use Rattle.updating.proofs.carry_over.Goals as goal

pub wake_all-requires : goal.wake_all-requires
wake_all-requires c = starts c.requires

pub dispatch-desk-requires : goal.dispatch-desk-requires
dispatch-desk-requires c = c.wake_all.ensures.whole

pub returns : goal.returns
returns c = carries_over c.requires c.wake_all.ensures c.dispatch-desk.ensures
