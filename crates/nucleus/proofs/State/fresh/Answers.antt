-- `State::fresh` meets its contract: every place is clean, and every line empty.
use Rattle.nucleus.specs.Settled.{fresh_shows}
use Rattle.nucleus.proofs.State.fresh.Goals as goal

pub returns : goal.returns
returns c = fresh_shows c.clear.ensures c.fresh.ensures
