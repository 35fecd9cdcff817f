-- `take` meets its contract: a leave and two stores are the rule's.
use native.Mathlib.Omega.{arith}
use Rattle.verbs.specs.Steps.{stood, heard, left}
use Rattle.talk.proofs.Received.{took}
use Rattle.talk.proofs.receive.take.Goals as goal

pub returns : goal.returns
returns c =
    let h = c.requires.1 in
    let r = left c.requires.0 (omega arith) c.args.p.0 c.leave.ensures in
    let s = stood r.whole c.requires.2 c.stand.ensures in
    took c.requires.0 c.requires.2 c.partner_of-partner.ensures c.number_of-who.ensures c.word_of-word.ensures r s
    (heard s.whole h c.tell.ensures)
