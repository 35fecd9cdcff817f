-- `pick` meets its contract: whom a search from here on finds is whom the whole search finds.
use lib.ListN.{length}
use Rattle.lists.specs.Lists.{KnownBy}
use Rattle.lines.specs.Passes.{left_from}
use Rattle.rules.specs.Model.{places}
use Rattle.talk.specs.Pick.{Picking}
use Rattle.talk.proofs.receive.pick.Given as goal

abbrev pub invariant-loop-next : goal.invariant-loop-next
invariant-loop-next l = KnownBy (Picking l.a.table.blocks l.a.lines l.q l.n.0) l.next

abbrev pub decreases-loop-next : goal.decreases-loop-next
decreases-loop-next l = length (left_from places l.a.lines l.q l.next)
