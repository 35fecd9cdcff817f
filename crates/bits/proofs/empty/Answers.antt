-- `empty` meets its contract. Assumes nothing.
use mathlib.Core.Path.{sym}
use Rattle.bits.specs.Set.{word_digits, word_count}
use Rattle.bits.specs.Words.{words_none}
use Rattle.bits.proofs.empty.Goals as goal

pub returns : goal.returns
returns c = sym (words_none word_digits word_count)
