-- `ready` meets its contract: a store and a join are the rule's.
use native.Mathlib.Omega.{arith}
use Rattle.verbs.specs.Steps.{then, stood, joined}
use Rattle.verbs.proofs.ready.Goals as goal

pub returns : goal.returns
returns c =
    let s = stood c.requires.0 c.requires.1 c.stand.ensures in
    then s (joined s.whole (omega arith) c.join.ensures)
