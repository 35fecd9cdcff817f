-- `deliver` meets its contract: the two ways are those of the rule.
use native.Mathlib.Omega.{arith}
use Rattle.verbs.specs.Steps.{then, stood, joined}
use Rattle.verbs.specs.Caller.{caller_place, caller_loose}
use Rattle.verbs.specs.Address.{met_place}
use Rattle.talk.specs.Send.{met_loose, met, unmet}
use Rattle.talk.proofs.send.deliver.Goals as goal

pub listens-requires : goal.listens-requires
listens-requires c = met_place c.requires

pub wake-requires : goal.wake-requires
wake-requires c =
    ((stood c.requires.stands.whole (caller_place c.requires.stands c.requires.busy) c.stand.ensures).whole, met_place c.requires, met_loose c.requires c.number_of-me.ensures c.listens.ensures c.if-listens.true)

pub returns-then-listens : goal.returns-then-listens
returns-then-listens c =
    let s = stood c.requires.stands.whole (caller_place c.requires.stands c.requires.busy) c.stand.ensures in
    met c.requires c.number_of-me.ensures c.listens.ensures c.if-listens.true c.turned_to-e.ensures
    (then s c.wake.ensures)

pub overflow_add-p : goal.overflow_add-p
overflow_add-p c = let h = met_place c.requires in omega arith

pub join-requires : goal.join-requires
join-requires c =
    let h = met_place c.requires in
    (c.requires.stands.whole.lines, omega arith, caller_place c.requires.stands c.requires.busy, caller_loose c.requires.stands c.requires.busy)

pub returns : goal.returns
returns c =
    let h = met_place c.requires in
    let s = stood c.requires.stands.whole (caller_place c.requires.stands c.requires.busy) c.stand-2.ensures in
    unmet c.requires c.number_of-me.ensures c.listens.ensures c.if-listens.false c.turned_to-e.ensures
    (then s (joined s.whole (omega arith) c.join.ensures))
