-- `let_go` meets its contract: the places from here on are left to do.
use Rattle.rules.specs.Rules.{awaiting}
use Rattle.life.specs.LetGo.{LettingIn}
use Rattle.life.proofs.end.let_go.Given as goal

abbrev pub invariant-loop-p : goal.invariant-loop-p
invariant-loop-p l = LettingIn (awaiting l.n.0) l.initial.a l.a l.p
