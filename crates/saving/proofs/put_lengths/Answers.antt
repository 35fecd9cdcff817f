-- `put_lengths` meets its contract. The loop's invariant: the lengths of the queues that are left are left to write.
use mathlib.Core.Path.{refl}
use mathlib.Core.List.{[], ◌∷◌}
use lib.ListN.{length}
use Rattle.lists.specs.Sizes.{places}
use Rattle.lines.specs.Lines.{line_of}
use Rattle.saving.specs.Format.{sizes}
use Rattle.saving.specs.Queues.{queueing_start, queueing_room, queueing_more, queueing_end}
use Rattle.saving.proofs.put_lengths.Goals as goal

pub loop-q-init : goal.loop-q-init
loop-q-init c =
    let a = c.args in
    queueing_start (sizes (line_of places a.l.now)) a.row a.w.now c.requires.2

pub push-requires : goal.push-requires
push-requires c =
    queueing_room c.loop-q.invariant c.loop-q-test.true (length (line_of places c.args.l.now c.loop-q.q) ∷ []) (λ qs. refl)

pub loop-q-preserved : goal.loop-q-preserved
loop-q-preserved c =
    queueing_more c.loop-q.invariant c.loop-q-test.true (length (line_of places c.args.l.now c.loop-q.q) ∷ []) (λ qs. refl) (rw c.measure.ensures at c.push.ensures)

pub returns : goal.returns
returns c = queueing_end c.loop-q.invariant refl c.loop-q-test.false
