-- `State::live` meets its contract: the live count is the ones of the filled set.
use mathlib.Core.Path.{sym, ◌∙◌}
use Rattle.table.specs.Cells.{stands_at}
use Rattle.table.specs.Choose.{live_is}
use Rattle.nucleus.specs.View.{held}
use Rattle.nucleus.proofs.State.live.Goals as goal

pub returns : goal.returns
returns c =
    let a = c.args.self in
    let k = c.consistent.ensures.yes c.if-not-consistent.false in
    held k (c.count.ensures (stands_at a.arrays.table.blocks) k.filled ∙ sym (live_is a.desk a.arrays.table.blocks a.arrays.table.words a.arrays.lines))
