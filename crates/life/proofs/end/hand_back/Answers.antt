-- `hand_back` meets its contract: the inbox is empty, or the first leaves it and has its own word back.
use mathlib.Core.Path.{refl}
use Rattle.lines.specs.Callers.{popped_none, popped_some}
use Rattle.verbs.specs.Verbs.{popped, somebody}
use Rattle.life.specs.Drain.{first_none, first_some}
use Rattle.life.specs.HandBack.{backs, backs_spare}
use Rattle.life.proofs.end.hand_back.Goals as goal

pub returns-in_default : goal.returns-in_default
returns-in_default c =
    first_none (backs c.args.n.0) c.requires.2 c.requires.0 (popped_none c.pop.ensures.who c.pop.ensures.line c.in_default.is) refl

pub give_back-requires : goal.give_back-requires
give_back-requires c =
    let z = popped_some c.pop.ensures.who c.pop.ensures.line c.in-Some.is in
    let n = somebody c.requires.0 c.requires.2 z.0 z.1 in
    ((popped c.requires.0 c.requires.2 z.0).whole, n.place, n.loose)

pub returns : goal.returns
returns c =
    let z = popped_some c.pop.ensures.who c.pop.ensures.line c.in-Some.is in
    first_some (backs c.args.n.0) c.requires.2 c.requires.0 z.0 (backs_spare c.args.n.0 c.args.q c.requires.1) z.1 c.give_back.ensures
