-- `put_entry` meets its contract: nothing for an empty place; else an entry, and the next body starts behind this one.
use Rattle.saving.proofs.Entries.{entry_none, entry_room, entry_whole}
use Rattle.saving.proofs.put_entry.Goals as goal

pub returns-then-t-eq-EMPTY : goal.returns-then-t-eq-EMPTY
returns-then-t-eq-EMPTY c =
    let x = c.args in
    entry_none x.row x.a.now x.p.0 c.requires.place c.read-t.ensures c.if-t-eq-EMPTY.true x.w.now x.body

pub put-requires : goal.put-requires
put-requires c =
    let x = c.args in
    entry_room x.row x.a.now x.p.0 c.requires.place c.read-t.ensures c.if-t-eq-EMPTY.false c.requires c.entry.ensures

pub returns : goal.returns
returns c =
    let x = c.args in
    entry_whole x.row x.a.now x.p.0 c.requires.place c.read-t.ensures c.if-t-eq-EMPTY.false c.requires
    c.entry.ensures c.put.ensures c.measure-n.ensures c.from.ensures c.body_length.ensures.0
