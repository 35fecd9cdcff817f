-- `put_bodies` meets its contract. The loop's invariant: the bodies of the places that are left are left to write.
use Rattle.saving.specs.Parts.{held}
use Rattle.saving.specs.Places.{bodies_start, bodies_room, bodies_more, bodies_end}
use Rattle.saving.proofs.put_bodies.Goals as goal

pub loop-p-init : goal.loop-p-init
loop-p-init c = let x = c.args in bodies_start x.row (held x.a.now) x.w.now c.requires.1

pub put_body-requires : goal.put_body-requires
put_body-requires c =
    (c.requires.0, c.loop-p-test.true, bodies_room c.loop-p.invariant c.loop-p-test.true)

pub loop-p-preserved : goal.loop-p-preserved
loop-p-preserved c =
    bodies_more c.loop-p.invariant c.loop-p-test.true c.put_body.ensures

pub returns : goal.returns
returns c = bodies_end c.loop-p.invariant c.loop-p-test.false
