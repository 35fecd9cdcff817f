-- `consistent_by` meets its contract: what its parts tell, put together.
use borrow.Author.Rules.{rules}
use Rattle.lists.specs.Tells.{tells_no}
use mathlib.Core.Path.{sym, ◌∙◌}
use Rattle.audit.specs.Whole.{not_members, filled_answer}
use Rattle.audit.proofs.consistent_by.Goals as goal

pub returns-then-not-members : goal.returns-then-not-members
returns-then-not-members c = tells_no (not_members (rw c.in-Some.is at c.survey.ensures) (c.members.ensures.no c.if-not-members.true))

pub returns : goal.returns
returns c =
    let a = c.args.a.now in
    filled_answer _ (search rules) (search rules) (rw c.in-Some.is at c.survey.ensures) (c.members.ensures.yes c.if-not-members.false)
    (sym (c.seated.ensures a.table.words) ∙ c.if-not-seated.false) (search rules) c.filling.ensures
