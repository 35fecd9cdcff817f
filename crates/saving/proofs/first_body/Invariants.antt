-- `first_body` meets its contract. The loop's invariant: what was counted and who waits in the queues that are left is the whole.
use Prim.Native.Nat.{◌≤◌, ◌+◌, ◌*◌}
use mathlib.Core.Path.{◌≡◌}
use lib.ListN.{length}
use Rattle.lists.specs.Sizes.{places}
use Rattle.lines.specs.Lines.{line_of}
use Rattle.saving.specs.Format.{joined}
use Rattle.saving.specs.Queues.{queues_from}
use Rattle.saving.specs.Written.{waiting_in}
use Rattle.saving.proofs.first_body.Given as goal

abbrev pub invariant-loop-q : goal.invariant-loop-q
invariant-loop-q l = (l.initial.n + length (waiting_in l.fn.row l.l) ≡ l.n + length (joined (line_of places l.l) (queues_from l.fn.row l.q))) × (l.n ≤ l.initial.n + places * l.q)
