-- `queues` meets its contract: the places of the queues before line q have joined. Assumes nothing.
use mathlib.Core.Path.{ap, ◌∙◌}
use Prim.Native.Nat.{ℕ, ◌+◌, ◌*◌}
use native.Mathlib.Omega.{arith}
use lib.ListN.{get_or}
use Rattle.saving.specs.Format.{lengths_at, entry_length}
use Rattle.loading.proofs.Enters.{queues_none, queues_more}
use Rattle.loading.proofs.read.queues.Goals as goal

pub loop-q-init : goal.loop-q-init
loop-q-init c = (queues_none (ap (λ (n : ℕ). n + entry_length * c.from-live.result) c.head_length.ensures) (c.from-live.ensures ∙ c.at.ensures), omega arith)

pub loop-q-preserved : goal.loop-q-preserved
loop-q-preserved c =
    let s = c.args.image.now in
    let e = c.from-count.ensures ∙ c.at-in-loop-q.ensures ∙ ap (λ (n : ℕ). get_or s (lengths_at + n) 0) c.from.ensures in
    (queues_more c.loop-q.invariant.0 c.loop-q-test.true e c.enqueue.ensures, omega arith)
