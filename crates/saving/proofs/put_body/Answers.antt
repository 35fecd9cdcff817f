-- `put_body` meets its contract: nothing for an empty place; else the thread, and behind it the inbox.
use borrow.Author.Rules.{rules}
use Rattle.saving.proofs.Entries.{body_none, thread_room, inbox_room, body_whole}
use Rattle.saving.proofs.put_body.Goals as goal

pub returns-then-t-eq-EMPTY : goal.returns-then-t-eq-EMPTY
returns-then-t-eq-EMPTY c =
    let x = c.args in
    body_none x.row x.a.now x.p.0 c.requires.1 c.read-t.ensures c.if-t-eq-EMPTY.true x.w.now

pub put_thread-requires : goal.put_thread-requires
put_thread-requires c =
    let x = c.args in
    thread_room x.row x.a.now x.p.0 c.requires.1 c.read-t.ensures c.if-t-eq-EMPTY.false x.w.now c.requires.2

pub put_inbox-requires : goal.put_inbox-requires
put_inbox-requires c =
    let x = c.args in
    (search rules, search rules, inbox_room x.row x.a.now x.p.0 c.requires.1 c.read-t.ensures c.if-t-eq-EMPTY.false x.w.now c.requires.2 c.put_thread.ensures)

pub returns : goal.returns
returns c =
    let x = c.args in
    body_whole x.row x.a.now x.p.0 c.requires.1 c.read-t.ensures c.if-t-eq-EMPTY.false x.w.now c.requires.2 c.put_thread.ensures
    c.put_inbox.ensures
