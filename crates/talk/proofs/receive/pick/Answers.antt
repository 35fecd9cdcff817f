-- `pick` meets its contract: whom a search from here on finds is whom the whole search finds.
use mathlib.Core.Path.{sym, ap, ◌∙◌}
use mathlib.Core.Bool.{Bool, ◌||◌}
use lib.Dec.{eqb}
use Rattle.lists.specs.Known.{known_none}
use Rattle.rules.specs.Values.{place_known}
use Rattle.talk.specs.Pick.{pick_at, pick_end, pick_place, pick_again, pick_less}
use Rattle.talk.proofs.receive.pick.Goals as goal

pub number_of-k-requires : goal.number_of-k-requires
number_of-k-requires c = let g = pick_at c.loop-next.invariant c.in-Some.is in pick_place g.0 c.requires.0 c.requires.1 g.1

pub after-next-requires : goal.after-next-requires
after-next-requires c = let g = pick_at c.loop-next.invariant c.in-Some.is in (c.requires.0, pick_place g.0 c.requires.0 c.requires.1 g.1)

pub loop-next-smaller : goal.loop-next-smaller
loop-next-smaller c =
    let g = pick_at c.loop-next.invariant c.in-Some.is in
    rw c.in-Some.is (pick_less g.0 c.requires.0 c.requires.1 g.1 c.after-next.ensures)

pub loop-next-preserved : goal.loop-next-preserved
loop-next-preserved c =
    let g = pick_at c.loop-next.invariant c.in-Some.is in
    let e = ap (λ (t : Bool). eqb c.args.n.0 255 || t) (sym c.eq.ensures) ∙ c.if-n-eq.false in
    pick_again g.0 c.requires.0 c.requires.1 g.1 c.after-next.ensures c.number_of-k.ensures e

pub returns : goal.returns
returns c =
    let v = c.loop-next.invariant in
    ap place_known (pick_end v.2 c.requires.0 c.requires.1 (known_none v.1 c.in_default.is))
