-- `reply` meets its contract: refused as the address is, or because it is not awaited, or handed over.
use mathlib.Core.Path.{refl}
use native.Mathlib.Omega.{arith}
use Rattle.verbs.specs.Caller.{caller_place}
use Rattle.events.specs.Events.{done_is}
use Rattle.verbs.specs.Address.{handed_on, met_place}
use Rattle.talk.specs.Reply.{reply_not, reply_5, reply_0}
use Rattle.talk.proofs.reply.reply.Goals as goal

pub returns-in_err-p : goal.returns-in_err-p
returns-in_err-p c =
    rw (handed_on c.from_residual.ensures.1) (reply_not c.requires c.args.to c.args.word (omega (arith, c.ranges)) (c.whom.ensures _ _ c.requires) c.in_err-p.was)

pub number_of-me-requires : goal.number_of-me-requires
number_of-me-requires c = caller_place c.requires ((c.whom.ensures _ _ c.requires).calls c.in_ok-p.was).busy

pub awaits-requires : goal.awaits-requires
awaits-requires c = met_place ((c.whom.ensures _ _ c.requires).calls c.in_ok-p.was)

pub returns-then-not-awaits : goal.returns-then-not-awaits
returns-then-not-awaits c =
    reply_5 c.requires c.args.to c.args.word (omega (arith, c.ranges)) (c.whom.ensures _ _ c.requires)
    c.in_ok-p.was c.number_of-me.ensures c.awaits.ensures c.if-not-awaits.true refl

pub hand_over-requires : goal.hand_over-requires
hand_over-requires c = (c.whom.ensures _ _ c.requires).calls c.in_ok-p.was

pub returns : goal.returns
returns c =
    reply_0 c.requires c.args.to c.args.word (omega (arith, c.ranges)) (c.whom.ensures _ _ c.requires)
    c.in_ok-p.was c.number_of-me.ensures c.awaits.ensures c.if-not-awaits.false
    c.hand_over.ensures (done_is c.args.d c.at.ensures)
