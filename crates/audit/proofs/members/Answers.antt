-- `members` meets its contract: an index of the numbers, and then every place and the chains of parents by it.
use Rattle.lists.specs.Tells.{tells_no}
use mathlib.Core.Path.{refl}
use Rattle.audit.specs.Loops.{enter_none}
use Rattle.audit.specs.Whole.{strangers_twice, strangers_one, told}
use Rattle.audit.proofs.members.Goals as goal

pub index-requires : goal.index-requires
index-requires c = enter_none refl

pub returns-then-not-index : goal.returns-then-not-index
returns-then-not-index c = tells_no (strangers_twice (c.index.ensures.no c.if-not-index.true))

pub returns-then-not-every : goal.returns-then-not-every
returns-then-not-every c =
    tells_no (strangers_one (c.index.ensures.yes c.if-not-index.false) (c.every.ensures.no c.if-not-every.true))

pub returns : goal.returns
returns c =
    told (c.index.ensures.yes c.if-not-index.false) (c.every.ensures.yes c.if-not-every.false)
    c.ringless.ensures
