-- `pop` meets its contract. The first is cut out, behind the line's own cell. Assumes nothing.
use native.Mathlib.Omega.{arith}
use Rattle.lists.specs.Known.{known_some}
use Rattle.lines.specs.Cut.{front_behind}
use Rattle.lines.proofs.pop.Goals as goal

pub cut-requires : goal.cut-requires
cut-requires c =
    let z = known_some c.known.ensures c.in_ok-p.was in
    (c.requires.0, c.requires.1, rw z.0 at (front_behind c.requires.0 c.requires.1 (omega arith) z.1))
