-- `State::empty_place` meets its contract: the lowest zero of the filled set.
use mathlib.Core.Path.{refl, sym}
use native.Mathlib.Omega.{arith}
use Rattle.rules.specs.Known.{place_at, place_not}
use Rattle.table.specs.Cells.{stands_at}
use Rattle.nucleus.specs.View.{held, refused}
use Rattle.nucleus.specs.Looks.{lowest_some, lowest_full}
use Rattle.nucleus.proofs.State.empty_place.Goals as goal

pub returns-then-not-consistent : goal.returns-then-not-consistent
returns-then-not-consistent c = refused (c.consistent.ensures.no c.if-not-consistent.true) refl

pub returns-then-p-ge-PLACES : goal.returns-then-p-ge-PLACES
returns-then-p-ge-PLACES c =
    let a = c.args.self in
    let k = c.consistent.ensures.yes c.if-not-consistent.false in
    held k (place_not (sym (lowest_full a.desk a.arrays.table.blocks a.arrays.table.words a.arrays.lines (c.lowest-p.ensures (stands_at a.arrays.table.blocks) k.filled) c.if-p-ge-PLACES.true)))

pub returns : goal.returns
returns c =
    let a = c.args.self in
    let k = c.consistent.ensures.yes c.if-not-consistent.false in
    held k (place_at (sym (lowest_some a.desk a.arrays.table.blocks a.arrays.table.words a.arrays.lines (c.lowest-p.ensures (stands_at a.arrays.table.blocks) k.filled) c.if-p-ge-PLACES.false)) (omega (arith, c.if-p-ge-PLACES.false)))
