-- `put_contents` meets its contract. The loop's invariant: the entries of the places that are left are left to write.
use Rattle.saving.specs.Parts.{held}
use Rattle.saving.specs.Places.{Lists}
use Rattle.saving.proofs.put_contents.Given as goal

abbrev pub invariant-loop-p : goal.invariant-loop-p
invariant-loop-p l = Lists l.row (held l.a) l.initial.w l.first l.w l.body l.p
