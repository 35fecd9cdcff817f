-- A nucleus that is consistent stays so through a list of events. It stands beside `keeps` and not with it, so that an edit of `keeps` is told at this law too.
use Rattle.std.specs.Prelude.{List, [], ◌∷◌}
use Rattle.rules.specs.Model.{Model}
use Rattle.rules.specs.Rules.{next, after}
use Rattle.rules.specs.Consistent.{Consistent}
use Rattle.rules.specs.declared.Event.{Event}
use Rattle.order.specs.Keeps.{AllFit}
use Rattle.order.proofs.Keeps.{keeps}

pub always : (es : List Event) (m : Model) → Consistent m → AllFit es → Consistent (after es m)
always [] m C f = C
always (e ∷ es) m C f = always es (next e m) (keeps e m C f.0) f.1
