-- `wake_all` meets its contract: the places from here on are left to do, and who was dead at the beginning is so still.
use native.Mathlib.Omega.{arith}
use Rattle.life.specs.LetGo.{let_start, let_end}
use Rattle.updating.specs.Deserted.{wakes_again}
use Rattle.updating.proofs.wake_all.Goals as goal

pub loop-p-init : goal.loop-p-init
loop-p-init c = let_start c.requires

pub wake_deserted-requires : goal.wake_deserted-requires
wake_deserted-requires c = (c.loop-p.invariant.now, c.loop-p-test.true)

pub loop-p-preserved : goal.loop-p-preserved
loop-p-preserved c =
    wakes_again c.requires c.loop-p.invariant c.loop-p-test.true c.wake_deserted.ensures

pub returns : goal.returns
returns c = let_end c.loop-p.invariant (omega arith)
