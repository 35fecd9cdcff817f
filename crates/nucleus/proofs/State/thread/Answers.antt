-- `State::thread` meets its contract.
use mathlib.Core.Path.{sym, ◌∙◌}
use Rattle.table.specs.Rows.{thread_at}
use Rattle.nucleus.specs.View.{held}
use Rattle.nucleus.proofs.State.thread.Goals as goal

pub returns : goal.returns
returns c =
    let a = c.args in
    let s = a.self in
    held (c.consistent.ensures.yes c.if-not-consistent.false)
    (c.read.ensures ∙ sym (thread_at s.desk.last.0 s.desk.running.0 s.arrays.table.blocks s.arrays.table.words s.arrays.lines a.p.0 c.if-p-ge-PLACES.false))
