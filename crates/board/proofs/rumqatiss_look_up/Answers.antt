-- `rumqatiss_look_up` meets its contract: what `locate` says, in two bytes each.
use native.Mathlib.Omega.{arith}
use Rattle.board.specs.Answers.{locate_short}
use Rattle.board.proofs.rumqatiss_look_up.Goals as goal

pub overflow_cast-offset : goal.overflow_cast-offset
overflow_cast-offset c = omega (arith, locate_short c.locate-part.ensures)

pub overflow_cast-size : goal.overflow_cast-size
overflow_cast-size c = omega (arith, locate_short c.locate-part.ensures)
