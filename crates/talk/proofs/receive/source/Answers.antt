-- `source` meets its contract: a number that is named is refused as for a send, and any only where nobody runs.
use mathlib.Core.Path.{sym, ap, ◌∙◌}
use Rattle.rules.specs.Values.{code_in}
use Rattle.verbs.specs.Address.{handed_on}
use Rattle.talk.proofs.Received.{source_named}
use Rattle.talk.proofs.receive.source.Goals as goal

pub returns-in_err-whom : goal.returns-in_err-whom
returns-in_err-whom c =
    λ w l k. ap code_in (handed_on c.from_residual.ensures.1) ∙ sym (ap code_in c.in_err-whom.was) ∙ source_named c.args.n c.if-n-ne-NOBODY.true c.whom.ensures w l k

pub returns-then-n-ne-NOBODY : goal.returns-then-n-ne-NOBODY
returns-then-n-ne-NOBODY c =
    λ w l k. ap code_in (sym c.in_ok-whom.was) ∙ source_named c.args.n c.if-n-ne-NOBODY.true c.whom.ensures w l k
