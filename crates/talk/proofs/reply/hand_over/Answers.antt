-- `hand_over` meets its contract: the caller is ready, and the other runs with its answer.
use Rattle.verbs.specs.Steps.{stood, heard}
use Rattle.verbs.specs.Caller.{caller_place, caller_loose}
use Rattle.verbs.specs.Address.{met_place}
use Rattle.talk.specs.Reply.{replied}
use Rattle.talk.proofs.reply.hand_over.Goals as goal

pub ready-requires : goal.ready-requires
ready-requires c =
    (c.requires.stands.whole, caller_place c.requires.stands c.requires.busy, caller_loose c.requires.stands c.requires.busy)

pub tell-requires : goal.tell-requires
tell-requires c = met_place c.requires

pub stand-requires : goal.stand-requires
stand-requires c = met_place c.requires

pub returns : goal.returns
returns c =
    let s = heard c.ready.ensures.whole (met_place c.requires) c.tell.ensures in
    replied c.requires c.number_of-me.ensures c.ready.ensures s
    (stood s.whole (met_place c.requires) c.stand.ensures) c.turned_to.ensures
