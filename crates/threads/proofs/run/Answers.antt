-- `run` meets its contract: a refused event leaves all as it was; after another, the front of ready is started.
use mathlib.Core.Path.{refl}
use Rattle.verbs.specs.Address.{refused_not}
use Rattle.threads.specs.Ran.{ran_not, ran}
use Rattle.threads.proofs.run.Goals as goal

pub returns-in-Ok : goal.returns-in-Ok
returns-in-Ok c = ran c.requires _ c.in-Ok.ensures refl c.dispatch.ensures

pub returns-in-Err : goal.returns-in-Err
returns-in-Err c = rw (c.answer.ensures, c.code.ensures) (ran_not c.requires _ c.in-Err.ensures (refused_not c.in-Err.refusal))
