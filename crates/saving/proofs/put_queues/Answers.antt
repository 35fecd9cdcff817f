-- `put_queues` meets its contract. The loop's invariant: the places of the queues that are left are left to write.
use borrow.Author.Rules.{rules}
use mathlib.Core.Path.{refl}
use Rattle.lists.specs.Sizes.{places}
use Rattle.lines.specs.Lines.{line_of}
use Rattle.saving.specs.Format.{joined}
use Rattle.saving.specs.Queues.{queueing_start, queueing_room, queueing_more, queueing_end}
use Rattle.saving.proofs.put_queues.Goals as goal

pub loop-q-init : goal.loop-q-init
loop-q-init c =
    let a = c.args in
    queueing_start (joined (line_of places a.l.now)) a.row a.w.now c.requires.2

pub put_line-requires : goal.put_line-requires
put_line-requires c =
    (c.requires.0, search rules, queueing_room c.loop-q.invariant c.loop-q-test.true (line_of places c.args.l.now c.loop-q.q) (λ qs. refl))

pub loop-q-preserved : goal.loop-q-preserved
loop-q-preserved c =
    queueing_more c.loop-q.invariant c.loop-q-test.true (line_of places c.args.l.now c.loop-q.q) (λ qs. refl) c.put_line.ensures

pub returns : goal.returns
returns c = queueing_end c.loop-q.invariant refl c.loop-q-test.false
