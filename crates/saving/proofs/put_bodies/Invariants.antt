-- `put_bodies` meets its contract. The loop's invariant: the bodies of the places that are left are left to write.
use Rattle.saving.specs.Parts.{held}
use Rattle.saving.specs.Places.{Embodies}
use Rattle.saving.proofs.put_bodies.Given as goal

abbrev pub invariant-loop-p : goal.invariant-loop-p
invariant-loop-p l = Embodies l.row (held l.a) l.initial.w l.w l.p
