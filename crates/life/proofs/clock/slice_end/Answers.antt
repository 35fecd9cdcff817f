-- `slice_end` meets its contract: nothing changes with nobody running; else the caller is ready, and nobody runs.
use mathlib.Core.Path.{refl}
use Rattle.rules.specs.Known.{place_none}
use Rattle.life.specs.Clock.{calls, slice_idle, slice_busy}
use Rattle.life.proofs.clock.slice_end.Goals as goal

pub returns-in_default : goal.returns-in_default
returns-in_default c = rw c.at.ensures (slice_idle c.requires (place_none c.runner.ensures c.in_default.is) refl)

pub ready-requires : goal.ready-requires
ready-requires c =
    let k = calls c.requires c.runner.ensures c.in-Some.is in
    (c.requires.whole, k.place, k.loose)

pub returns : goal.returns
returns c =
    let k = calls c.requires c.runner.ensures c.in-Some.is in
    rw c.at-2.ensures (slice_busy c.requires k.busy (rw k.is at c.ready.ensures) c.turned_to.ensures refl)
