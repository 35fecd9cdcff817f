-- `wake_listeners` meets its contract: the places from here on are left to do.
use Rattle.rules.specs.Rules.{listening}
use Rattle.life.specs.LetGo.{LettingIn}
use Rattle.life.proofs.end.wake_listeners.Given as goal

abbrev pub invariant-loop-p : goal.invariant-loop-p
invariant-loop-p l = LettingIn (listening l.n.0) l.initial.a l.a l.p
