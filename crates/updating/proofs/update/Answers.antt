-- `update` meets its contract: load's refusals, or what was loaded, carried over.
use Rattle.loading.proofs.Accepts.{accepted_of}
use Rattle.updating.proofs.Updates.{update_refused, update_done}
use Rattle.updating.proofs.update.Goals as goal

pub returns-then-from-ne-DONE : goal.returns-then-from-ne-DONE
returns-then-from-ne-DONE c = update_refused c.load_old-from.ensures c.if-from-ne-DONE.true

pub carry_over-requires : goal.carry_over-requires
carry_over-requires c = (accepted_of c.load_old-from.ensures c.if-from-ne-DONE.false).consists

pub returns : goal.returns
returns c = update_done c.load_old-from.ensures c.if-from-ne-DONE.false c.carry_over.ensures
