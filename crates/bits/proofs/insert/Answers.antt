-- `insert` meets its contract. Assumes nothing.
use native.Mathlib.Omega.{arith}
use Rattle.bits.specs.Adds.{adds_one}
use Rattle.bits.proofs.insert.Goals as goal

pub returns : goal.returns
returns c = adds_one c.args.n.0 (omega arith)
