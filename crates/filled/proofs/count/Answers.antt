-- `count` meets its contract: the ones of the word are the filled places. Assumes nothing.
use mathlib.Core.Path.{ap, ◌∙◌}
use lib.Count.{ones}
use Rattle.filled.specs.Filled.{width}
use Rattle.filled.specs.Words.{word_ones}
use Rattle.filled.proofs.count.Goals as goal

pub returns : goal.returns
returns c = λ f e. ap ones e ∙ word_ones width f
