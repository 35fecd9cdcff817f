-- `enqueue` meets its contract: of the places the first i have joined. Assumes nothing.
use Rattle.loading.specs.Joins.{joined_more}
use Rattle.loading.proofs.read.enqueue.Goals as goal

pub loop-i-preserved : goal.loop-i-preserved
loop-i-preserved c =
    let a = c.args in
    joined_more a.image.now a.from a.count a.q c.requires.0 c.loop-i-test.true c.loop-i.invariant (rw c.at.ensures at c.hang.ensures)
