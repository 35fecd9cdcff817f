-- `put_head` meets its contract: four bytes, behind them the lengths, and behind these the total.
use Rattle.lists.specs.Bytes.{two_bytes}
use Rattle.saving.specs.Written.{lengths_in}
use Rattle.saving.specs.Puts.{second_room, third_room, puts_three}
use Rattle.saving.proofs.put_head.Goals as goal

pub put_lengths-requires : goal.put_lengths-requires
put_lengths-requires c =
    let a = c.args in
    (c.requires.0, c.requires.1, second_room c.put.ensures (lengths_in a.row a.l.now) (two_bytes a.total) c.requires.2)

pub put-requires-2 : goal.put-requires-2
put-requires-2 c =
    let a = c.args in
    rw c.to_le_bytes.ensures (third_room c.put.ensures (lengths_in a.row a.l.now) (two_bytes a.total) c.requires.2 c.put_lengths.ensures)

pub returns : goal.returns
returns c =
    let a = c.args in
    puts_three c.put.ensures (lengths_in a.row a.l.now) (two_bytes a.total) c.requires.2 c.put_lengths.ensures (rw c.to_le_bytes.ensures at c.put-2.ensures)
