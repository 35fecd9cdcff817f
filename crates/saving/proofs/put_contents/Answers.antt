-- `put_contents` meets its contract. The loop's invariant: the entries of the places that are left are left to write.
use Rattle.saving.specs.Parts.{held}
use Rattle.saving.specs.Places.{contents_start, contents_more, contents_end, enters}
use Rattle.saving.proofs.put_contents.Goals as goal

pub loop-p-init : goal.loop-p-init
loop-p-init c =
    let x = c.args in
    contents_start x.row (held x.a.now) x.w.now x.first c.requires.room

pub put_entry-body-requires : goal.put_entry-body-requires
put_entry-body-requires c =
    enters c.loop-p.invariant c.requires.lines c.loop-p-test.true c.requires.low

pub loop-p-preserved : goal.loop-p-preserved
loop-p-preserved c =
    contents_more c.loop-p.invariant c.loop-p-test.true c.put_entry-body.ensures

pub returns : goal.returns
returns c = contents_end c.loop-p.invariant c.loop-p-test.false
