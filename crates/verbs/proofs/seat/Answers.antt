-- `seat` meets its contract: a number, a parent and a wake make the newcomer.
use Rattle.verbs.specs.Seats.{seats}
use Rattle.verbs.proofs.seat.Goals as goal

pub returns : goal.returns
returns c =
    seats c.requires.0 c.requires.1 c.name.ensures c.raise.ensures c.wake.ensures
