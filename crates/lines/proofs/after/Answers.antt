-- `after` meets its contract. Assumes nothing.
use mathlib.Core.Path.{ap, ◌∙◌}
use native.Mathlib.Omega.{arith}
use Rattle.lists.specs.Lists.{known}
use Rattle.lines.specs.Along.{after_is}
use Rattle.lines.proofs.after.Goals as goal

pub returns : goal.returns
returns c = λ q h g. c.known.ensures ∙ ap known (after_is c.requires.0 (omega arith) _ q h g)
