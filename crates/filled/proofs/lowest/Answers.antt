-- `lowest` meets its contract: the lowest digit of the word that is 0 is the lowest empty place. Assumes nothing.
use mathlib.Core.Path.{ap, ◌∙◌}
use Prim.Native.Nat.{ℕ, ◌-◌, ◌^◌}
use lib.Count.{count_trailing_zeros}
use Rattle.filled.specs.Filled.{width}
use Rattle.filled.specs.Lowest.{word_lowest}
use Rattle.filled.proofs.lowest.Goals as goal

pub returns : goal.returns
returns c = λ f e. ap (λ (x : ℕ). count_trailing_zeros width ((2 ^ width - 1) - x)) e ∙ word_lowest width f
