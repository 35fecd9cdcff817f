-- `enter` meets its contract: an entry that names no place of the row is skipped, and of any other the body is read. Assumes nothing.
use mathlib.Core.Path.{ap, ◌∙◌}
use Prim.Native.Nat.{ℕ, ◌+◌, ◌*◌}
use native.Mathlib.Omega.{arith}
use Rattle.saving.specs.Format.{entry_length}
use Rattle.loading.proofs.Enters.{entered_no, entered_one}
use Rattle.loading.proofs.read.enter.Goals as goal

pub returns-then-p-row : goal.returns-then-p-row
returns-then-p-row c = entered_no c.requires.2 (ap (λ (n : ℕ). n + entry_length * c.args.i) c.head_length.ensures) (omega arith)

pub returns : goal.returns
returns c =
    let i = c.args.i in
    entered_one c.seat.ensures (rw c.body_length.ensures.0 at c.enqueue.ensures) c.if-p-row.false (ap (λ (n : ℕ). n + entry_length * i) c.head_length.ensures) c.at-p.ensures
    c.at.ensures c.two-o.ensures.0 (c.from-count.ensures ∙ c.at-2.ensures)
