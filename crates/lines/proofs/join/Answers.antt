-- `join` meets its contract. The cell that is written is the last cell of the line: its own where the line is empty, and else its last place. Assumes nothing.
use mathlib.Core.Path.{◌≡◌, sym, ◌∙◌}
use Prim.Native.Nat.{◌+◌}
use native.Mathlib.Omega.{arith}
use Rattle.lines.specs.Lines.{last_cell, line_of}
use Rattle.lines.specs.Join.{join_own, join_some, join_turned}
use Rattle.lists.specs.Known.{known_none, known_some}
use Rattle.lists.specs.Sizes.{places}
use Rattle.lines.proofs.join.Goals as goal
use Rattle.lines.proofs.join.Goals.{in-None, in-Some}

pub returns : goal.returns
returns c =
    let e : c.match-known.at ≡ last_cell (places + c.args.q) (line_of places c.args.l.now c.args.q) =
    elim c.match-known.branch [
      | in-None w ↦ w.at-is ∙ join_own c.requires.0 c.requires.1 (omega arith) (known_none c.known.ensures w.in-None.is)
      | in-Some w ↦ let z = known_some c.known.ensures w.in-Some.is in w.at-is ∙ sym z.0 ∙ join_some c.requires.0 c.requires.1 (omega arith) z.1
    ] in
    rw e (join_turned c.requires.0 c.requires.1 (omega arith) c.requires.2 c.requires.3)
