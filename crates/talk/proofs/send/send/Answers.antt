-- `send` meets its contract: refused as the address is, or delivered.
use native.Mathlib.Omega.{arith}
use Rattle.events.specs.Events.{done_is}
use Rattle.verbs.specs.Address.{handed_on}
use Rattle.talk.specs.Send.{send_not, sent}
use Rattle.talk.proofs.send.send.Goals as goal

pub returns-in_err-p : goal.returns-in_err-p
returns-in_err-p c =
    rw (handed_on c.from_residual.ensures.1) (send_not c.requires c.args.to c.args.word (omega (arith, c.ranges)) (c.whom.ensures _ _ c.requires) c.in_err-p.was)

pub deliver-requires : goal.deliver-requires
deliver-requires c = (c.whom.ensures _ _ c.requires).calls c.in_ok-p.was

pub returns : goal.returns
returns c =
    sent c.requires c.args.to c.args.word (omega (arith, c.ranges)) (c.whom.ensures _ _ c.requires) c.in_ok-p.was c.deliver.ensures (done_is c.args.d c.at.ensures)
