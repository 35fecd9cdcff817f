-- `put_tail` meets its contract: each part is written where the one before it ends.
use Rattle.saving.specs.Parts.{bodies_in}
use Rattle.saving.specs.Written.{waiting_in}
use Rattle.saving.specs.Puts.{second_room, third_room, puts_three}
use Rattle.saving.proofs.Written.{tail_is, tail_room, tail_contents}
use Rattle.saving.proofs.put_tail.Goals as goal

pub put_contents-requires : goal.put_contents-requires
put_contents-requires c = tail_contents c.requires

pub put_queues-requires : goal.put_queues-requires
put_queues-requires c =
    let x = c.args in
    (c.requires.lines, c.requires.few, second_room c.put_contents.ensures (waiting_in x.row x.a.now.lines) (bodies_in x.row x.a.now) (tail_room c.requires))

pub put_bodies-requires : goal.put_bodies-requires
put_bodies-requires c =
    let x = c.args in
    (c.requires.lines, third_room c.put_contents.ensures (waiting_in x.row x.a.now.lines) (bodies_in x.row x.a.now) (tail_room c.requires) c.put_queues.ensures)

pub returns : goal.returns
returns c =
    let x = c.args in
    rw (tail_is c.requires) (puts_three c.put_contents.ensures (waiting_in x.row x.a.now.lines) (bodies_in x.row x.a.now) (tail_room c.requires) c.put_queues.ensures c.put_bodies.ensures)
