-- `written` meets its contract: what stands in the array is what its writer wrote.
use borrow.Author.Rules.{rules}
use Rattle.depot.proofs.Telling.{writes_as}
use Rattle.depot.proofs.written.Goals as goal

pub returns : goal.returns
returns c = writes_as c.write.ensures.text (search rules)
