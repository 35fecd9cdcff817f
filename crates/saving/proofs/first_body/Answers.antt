-- `first_body` meets its contract. The loop's invariant: what was counted and who waits in the queues that are left is the whole.
use Prim.Native.Nat.{◌<◌}
use native.Mathlib.Omega.{arith}
use Rattle.lists.specs.Sizes.{places, line_count}
use Rattle.lines.specs.Lines.{line_of}
use Rattle.lines.specs.Passes.{line_short}
use Rattle.saving.specs.Queues.{waiting_start, waiting_step, waiting_end}
use Rattle.saving.proofs.first_body.Goals as goal

pub loop-q-init : goal.loop-q-init
loop-q-init c =
    let z = waiting_start (line_of places c.args.l.now) c.args.row in
    (omega arith, omega arith)

pub loop-q-preserved : goal.loop-q-preserved
loop-q-preserved c =
    let f = c.requires in
    let z = waiting_step (line_of places c.args.l.now) c.args.row c.loop-q.q c.loop-q-test.true in
    let h : c.loop-q.q < line_count = omega arith in
    let s = line_short f.0 (omega arith) h in
    (omega arith, omega arith)

pub returns : goal.returns
returns c =
    let z = waiting_end (line_of places c.args.l.now) c.args.row c.loop-q.q c.loop-q-test.false in
    omega arith
