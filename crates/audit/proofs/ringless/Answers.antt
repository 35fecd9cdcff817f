-- `ringless` meets its contract. The loop's invariant: the walks from the places passed have ended.
use mathlib.Core.Path.{refl}
use native.Mathlib.Omega.{arith}
use Rattle.lists.specs.Tells.{tells_yes}
use Rattle.audit.specs.Rings.{stamp_none}
use Rattle.audit.proofs.ringless.Goals as goal

pub loop-p-init : goal.loop-p-init
loop-p-init c = stamp_none refl

pub returns : goal.returns
returns c = tells_yes (λ p h. c.loop-p.invariant.ends p (omega arith))
