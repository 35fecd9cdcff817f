-- `give_back` meets its contract: the word that is read is its own.
use Rattle.life.specs.HandBack.{backed}
use Rattle.life.proofs.end.give_back.Goals as goal

pub returns : goal.returns
returns c = backed c.requires.1 c.word_of-word.ensures c.wake.ensures
