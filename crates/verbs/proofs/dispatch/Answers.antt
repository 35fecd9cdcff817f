-- `dispatch` meets its contract: somebody runs, nobody is ready, or the front of ready runs.
use mathlib.Core.Path.{refl, sym, ◌∙◌}
use Rattle.rules.specs.Known.{place_no}
use Rattle.lines.specs.Callers.{popped_none, popped_some}
use Rattle.verbs.specs.Verbs.{dispatch_none, dispatch_some}
use Rattle.verbs.proofs.dispatch.Goals as goal

pub returns-in_default : goal.returns-in_default
returns-in_default c =
    dispatch_none c.requires c.args.d (place_no c.runner.ensures (sym c.is_some.ensures ∙ c.if-is_some.false))
    (popped_none c.pop.ensures.who c.pop.ensures.line c.in_default.is) refl

pub returns : goal.returns
returns c =
    let z = popped_some c.pop.ensures.who c.pop.ensures.line c.in-Some.is in
    dispatch_some c.requires c.args.d (place_no c.runner.ensures (sym c.is_some.ensures ∙ c.if-is_some.false)) z.0 z.1 c.stand.ensures c.turned_to.ensures
