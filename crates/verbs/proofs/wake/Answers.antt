-- `wake` meets its contract: an answer, and then as `ready`.
use Rattle.verbs.specs.Steps.{heard}
use Rattle.verbs.specs.Verbs.{woke}
use Rattle.verbs.proofs.wake.Goals as goal

pub returns : goal.returns
returns c =
    woke c.requires.0 c.requires.1 (heard c.requires.0 c.requires.1 c.tell.ensures) c.ready.ensures
