-- `interrupt` meets its contract: nothing is pending, or the first in the queue of the first pending index is served.
use mathlib.Core.Path.{refl, sym, ◌∙◌}
use native.Mathlib.Omega.{arith}
use Rattle.rules.specs.Known.{device_none, device_some}
use Rattle.life.specs.Device.{interrupt_none, pending_low, interrupt_served}
use Rattle.life.proofs.device.interrupt.Goals as goal

pub returns-in_default : goal.returns-in_default
returns-in_default c =
    rw c.at.ensures (interrupt_none c.requires c.args.s c.args.status (omega (arith, c.ranges), omega (arith, c.well_formed), omega (arith, c.well_formed))
    refl (device_none c.first.ensures c.in_default.is) refl)

pub overflow_add-i : goal.overflow_add-i
overflow_add-i c =
    let z = device_some c.first.ensures c.in-Some.is in
    let h = pending_low c.args.s z.0 (λ y. z.1 (sym z.0 ∙ y)) in
    omega arith

pub ring-requires : goal.ring-requires
ring-requires c =
    let z = device_some c.first.ensures c.in-Some.is in
    let h = pending_low c.args.s z.0 (λ y. z.1 (sym z.0 ∙ y)) in
    (c.requires.whole, omega arith, omega arith)

pub returns : goal.returns
returns c =
    let z = device_some c.first.ensures c.in-Some.is in
    rw c.at-2.ensures (interrupt_served c.requires c.args.s c.args.status (omega (arith, c.ranges), omega (arith, c.well_formed), omega (arith, c.well_formed))
    z.0 (λ y. z.1 (sym z.0 ∙ y)) c.ring.ensures refl)
