-- `candidate` meets its contract: the queues and all entries have been read. Assumes nothing.
use mathlib.Core.Path.{◌∙◌}
use Rattle.loading.specs.Fills.{fresh_emptied, fresh_clear}
use Rattle.loading.proofs.Enters.{candidate_is}
use Rattle.loading.proofs.read.candidate.Goals as goal

pub returns : goal.returns
returns c =
    candidate_is (fresh_emptied c.fresh.ensures) (fresh_clear c.fresh.ensures) c.queues.ensures c.entries.ensures (c.from-n.ensures ∙ c.at.ensures) c.filling.ensures
    c.at-2.ensures c.at-3.ensures
