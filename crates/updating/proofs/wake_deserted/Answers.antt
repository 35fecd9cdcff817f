-- `wake_deserted` meets its contract: who listens for the dead is told its number, and any other stays as it is.
use Rattle.updating.specs.Deserted.{wakes_not, wakes_loose, wakes_yes}
use Rattle.updating.proofs.wake_deserted.Goals as goal

pub returns-then-not-is_deserted : goal.returns-then-not-is_deserted
returns-then-not-is_deserted c =
    wakes_not c.requires.0 c.requires.1 c.is_deserted.ensures c.if-not-is_deserted.true

pub wake-requires : goal.wake-requires
wake-requires c =
    (c.requires.0.whole, c.requires.1, wakes_loose c.requires.0 c.requires.1 c.is_deserted.ensures c.if-not-is_deserted.false)

pub returns : goal.returns
returns c =
    wakes_yes c.requires.0 c.requires.1 c.is_deserted.ensures c.if-not-is_deserted.false c.partner_of-n.ensures c.wake.ensures
