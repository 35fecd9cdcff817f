-- `fresh` meets its contract. The blank array is that of empty lines. Assumes nothing.
use native.Mathlib.Omega.{arith}
use Rattle.lines.specs.Blank.{blank_clear}
use Rattle.lists.specs.Sizes.{places, line_count}
use Rattle.lines.proofs.fresh.Goals as goal

pub returns : goal.returns
returns c = blank_clear places line_count (omega arith)
