-- `hang` meets its contract: in a tidy array the cell that is written is that which `join` writes. Assumes nothing.
use mathlib.Core.Path.{◌≡◌, ◌∙◌}
use Prim.Native.Nat.{◌+◌}
use native.Mathlib.Omega.{arith}
use Rattle.lists.specs.Sizes.{places}
use Rattle.lines.specs.Lines.{last_cell, line_of}
use Rattle.lines.specs.Join.{hang_own, hang_some, join_turned}
use Rattle.lines.proofs.hang.Goals as goal
use Rattle.lines.proofs.hang.Goals.{else-last-lt-PLACES, then-last-lt-PLACES}

pub returns : goal.returns
returns c = λ k g f.
    let a = c.args in
    let e : c.if-last-lt-PLACES.at ≡ last_cell (places + a.q) (line_of places a.l.now a.q) =
    elim c.if-last-lt-PLACES.branch [
      | then-last-lt-PLACES w ↦ let h = w.if-last-lt-PLACES.true in w.at-is ∙ hang_some k c.requires (omega arith) (omega arith)
      | else-last-lt-PLACES w ↦ let h = w.if-last-lt-PLACES.false in w.at-is ∙ hang_own k c.requires (omega arith) (omega arith)
    ] in
    rw e (join_turned k c.requires (omega arith) g f)
