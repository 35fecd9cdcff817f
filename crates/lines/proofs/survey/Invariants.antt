-- `survey` meets its contract. The loop's invariant: the first q lines are good, and the marks theirs. Assumes nothing.
use Rattle.lines.specs.Steps.{DoneUpTo}
use Rattle.lists.specs.Sizes.{places, line_count}
use Rattle.lines.proofs.survey.Given as goal

abbrev pub invariant-loop-q : goal.invariant-loop-q
invariant-loop-q l = DoneUpTo places line_count l.l l.at l.q
