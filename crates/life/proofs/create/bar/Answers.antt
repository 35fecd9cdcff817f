-- `bar` meets its contract: an empty place adds nothing, and another its two numbers.
use Rattle.life.specs.Gather.{bar_both}
use Rattle.life.proofs.create.bar.Goals as goal

pub returns : goal.returns
returns c =
    bar_both c.args.t.now.blocks c.args.p.0 c.if-t-at-eq-EMPTY.false c.insert.ensures c.insert-2.ensures
