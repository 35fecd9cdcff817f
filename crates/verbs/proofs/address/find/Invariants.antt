-- `find` meets its contract: whom a search from here on finds is whom the whole search finds.
use mathlib.Core.Path.{◌≡◌}
use Prim.Native.Nat.{◌-◌}
use Rattle.rules.specs.Model.{places}
use Rattle.verbs.specs.Find.{found_from, found}
use Rattle.verbs.proofs.address.find.Given as goal

abbrev pub invariant-loop-i : goal.invariant-loop-i
invariant-loop-i l = found l.t.blocks l.n.0 ≡ found_from l.t.blocks l.n.0 l.i (places - l.i)
