-- `put_inbox` meets its contract: how many places there are, behind it the parent, and behind that the places.
use Rattle.lists.specs.Sizes.{places}
use Rattle.lines.specs.Lines.{line_of}
use Rattle.saving.specs.Format.{parent_bytes}
use Rattle.saving.specs.Puts.{second_room, third_room, puts_three}
use Rattle.saving.proofs.put_inbox.Goals as goal

pub put_parent-requires : goal.put_parent-requires
put_parent-requires c =
    let a = c.args in
    second_room (rw c.measure.ensures at c.push.ensures) (parent_bytes a.row a.n.0) (line_of places a.l.now a.q) c.requires.2

pub put_line-requires : goal.put_line-requires
put_line-requires c =
    let a = c.args in
    (c.requires.0, c.requires.1, third_room (rw c.measure.ensures at c.push.ensures) (parent_bytes a.row a.n.0) (line_of places a.l.now a.q) c.requires.2 c.put_parent.ensures)

pub returns : goal.returns
returns c =
    let a = c.args in
    puts_three (rw c.measure.ensures at c.push.ensures) (parent_bytes a.row a.n.0) (line_of places a.l.now a.q) c.requires.2 c.put_parent.ensures
    c.put_line.ensures
