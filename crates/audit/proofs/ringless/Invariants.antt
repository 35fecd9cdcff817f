-- `ringless` meets its contract. The loop's invariant: the walks from the places passed have ended.
use Rattle.audit.specs.Rings.{Stamped}
use Rattle.audit.proofs.ringless.Given as goal

abbrev pub invariant-loop-p : goal.invariant-loop-p
invariant-loop-p l = Stamped l.t.blocks l.who l.stamps l.p
