-- `create` meets its contract: refused where all places are filled; else the lowest empty one takes the newcomer.
use mathlib.Core.Path.{refl}
use Rattle.life.specs.Create.{create_6, seat_place, seat_loose, create_0}
use Rattle.life.proofs.create.create.Goals as goal

pub returns-then-count : goal.returns-then-count
returns-then-count c = create_6 c.requires c.count.ensures c.if-count.true refl

pub seat-requires : goal.seat-requires
seat-requires c =
    (c.requires.whole, seat_place c.requires c.count.ensures c.if-count.false c.lowest-p.ensures, seat_loose c.requires c.count.ensures c.if-count.false c.lowest-p.ensures)

pub with-requires : goal.with-requires
with-requires c =
    seat_place c.requires c.count.ensures c.if-count.false c.lowest-p.ensures

pub returns : goal.returns
returns c =
    create_0 c.requires c.count.ensures c.if-count.false c.lowest-p.ensures c.next_number-n.ensures
    c.creator-parent.ensures c.seat.ensures c.with.ensures
