-- `tick` meets its contract: all who waited are woken, and the desk stays.
use mathlib.Core.Path.{refl}
use Rattle.life.specs.Clock.{ticks}
use Rattle.life.proofs.clock.tick.Goals as goal

pub returns : goal.returns
returns c = rw c.at.ensures (ticks c.requires c.ring_all.ensures refl)
