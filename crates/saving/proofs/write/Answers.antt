-- `write` meets its contract: the parts behind the head, and the head.
use borrow.Author.Rules.{rules}
use native.Mathlib.Omega.{arith}
use Rattle.saving.proofs.Written.{write_tail, write_low, write_head, write_whole}
use Rattle.saving.proofs.write.Goals as goal

pub put_tail-requires : goal.put_tail-requires
put_tail-requires c =
    write_tail c.args.row c.requires.0 c.requires.1 c.count-live.ensures c.first_body-first.ensures c.head_length-at.ensures c.requires.2

pub overflow_cast-end : goal.overflow_cast-end
overflow_cast-end c =
    let h = write_low c.args.row c.requires.0 c.requires.1 c.count-live.ensures (rw c.head_length-at.ensures at c.put_tail.ensures.wrote) c.requires.2 in
    omega arith

pub put_head-requires : goal.put_head-requires
put_head-requires c =
    (c.requires.1.whole.lines, c.requires.0, write_head c.args.row c.requires.0 c.requires.1 c.count-live.ensures (rw c.head_length-at.ensures at c.put_tail.ensures.wrote) c.requires.2)

pub returns : goal.returns
returns c =
    write_whole c.args.row c.requires.0 c.requires.1 c.count-live.ensures (rw c.head_length-at.ensures at c.put_tail.ensures.wrote) c.requires.2 c.put_head.ensures.wrote (search rules)
