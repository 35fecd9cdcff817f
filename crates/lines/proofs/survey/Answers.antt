-- `survey` meets its contract. The loop's invariant: the first q lines are good, and the marks theirs. Assumes nothing.
use mathlib.Core.Path.{refl}
use Rattle.lines.specs.Test.{done_none}
use Rattle.lines.proofs.survey.Goals as goal

pub loop-q-init : goal.loop-q-init
loop-q-init c = done_none refl
