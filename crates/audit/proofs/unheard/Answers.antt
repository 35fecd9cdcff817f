-- `unheard` meets its contract: past the places nobody stands, so nobody waits to hear.
use mathlib.Core.Path.{ap}
use mathlib.Core.List.{[]}
use mathlib.Core.Bool.{not}
use native.Mathlib.Omega.{arith}
use borrow.Author.Tests.{eq-eqb}
use Rattle.table.specs.Rows.{thread_at, thread_past}
use Rattle.audit.proofs.unheard.Goals as goal

pub returns-then-r-ge-LIMIT : goal.returns-then-r-ge-LIMIT
returns-then-r-ge-LIMIT c =
    λ w.
    rw (eq-eqb c.args.one.standing 3 c.if-one-ne-SENDING.false, thread_past 0 0 _ w [] c.args.r.0 (omega arith))

pub returns : goal.returns
returns c =
    λ w.
    rw (eq-eqb c.args.one.standing 3 c.if-one-ne-SENDING.false, thread_at 0 0 _ w [] c.args.r.0 (omega arith))
    (ap not c.listens.ensures)
