-- `with` meets its contract. Assumes nothing.
use Rattle.filled.specs.Filled.{width}
use Rattle.filled.specs.Bits.{word_with, shl_one}
use Rattle.filled.proofs.with.Goals as goal

pub returns : goal.returns
returns c = λ f e. rw (shl_one width c.args.p c.requires, e) (word_with width c.args.p f c.requires)
