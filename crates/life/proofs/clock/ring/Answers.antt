-- `ring` meets its contract: nobody waits, or the first leaves the queue and is woken.
use mathlib.Core.Path.{refl}
use Rattle.lines.specs.Callers.{popped_none, popped_some}
use Rattle.verbs.specs.Verbs.{popped, somebody}
use Rattle.life.specs.Drain.{first_none, first_some}
use Rattle.life.specs.Clock.{rings, rings_spare}
use Rattle.life.proofs.clock.ring.Goals as goal

pub returns-in_default : goal.returns-in_default
returns-in_default c =
    first_none (rings c.args.word) c.requires.2 c.requires.0 (popped_none c.pop.ensures.who c.pop.ensures.line c.in_default.is) refl

pub wake-requires : goal.wake-requires
wake-requires c =
    let z = popped_some c.pop.ensures.who c.pop.ensures.line c.in-Some.is in
    let n = somebody c.requires.0 c.requires.2 z.0 z.1 in
    ((popped c.requires.0 c.requires.2 z.0).whole, n.place, n.loose)

pub returns : goal.returns
returns c =
    let z = popped_some c.pop.ensures.who c.pop.ensures.line c.in-Some.is in
    first_some (rings c.args.word) c.requires.2 c.requires.0 z.0 (rings_spare c.args.word c.args.q c.requires.1) z.1 c.wake.ensures
