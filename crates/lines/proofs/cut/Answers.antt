-- `cut` meets its contract. The last of the line is what it was, or, where the last goes out, the cell before it, or none. Assumes nothing.
use mathlib.Core.Path.{◌∙◌}
use native.Mathlib.Omega.{arith}
use Rattle.lines.specs.Cut.{cut_in, tail_kept, tail_low, tail_high, cut_turned}
use Rattle.lines.proofs.cut.Goals as goal
use Rattle.lines.proofs.cut.Goals.{else-next+else-at-lt-PLACES, else-next+then-at-lt-PLACES, then-next}

pub bounds-l-at : goal.bounds-l-at
bounds-l-at c =
    let b = cut_in c.requires.0 c.requires.1 (omega arith) c.requires.2 in
    omega arith

pub returns : goal.returns
returns c =
    cut_turned c.requires.0 c.requires.1 (omega arith) c.requires.2
    (elim c.if-next.branch [
      | then-next w ↦ w.last-is ∙ tail_kept c.requires.0 c.requires.1 (omega arith) c.requires.2 w.if-next.true
      | else-next+then-at-lt-PLACES w ↦ w.last-is ∙ tail_low c.requires.0 c.requires.1 (omega arith) c.requires.2 (omega (arith, w.if-next.false)) w.if-at-lt-PLACES.true
      | else-next+else-at-lt-PLACES w ↦ w.last-is ∙ tail_high c.requires.0 c.requires.1 (omega arith) c.requires.2 (omega (arith, w.if-next.false)) w.if-at-lt-PLACES.false
    ])
