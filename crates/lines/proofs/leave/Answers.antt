-- `leave` meets its contract. p is cut out where it was found, and the line is without p already where it was not. Assumes nothing.
use Rattle.lists.specs.Without.{without_none}
use Rattle.lines.specs.Arrays.{turned_not}
use Rattle.lines.proofs.leave.Goals as goal

pub returns-in_default : goal.returns-in_default
returns-in_default c =
    rw (without_none c.args.p _ c.in_default.ensures) (turned_not c.requires.0)
