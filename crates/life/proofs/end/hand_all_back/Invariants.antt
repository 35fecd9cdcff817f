-- `hand_all_back` meets its contract: what is left of the inbox is left to do.
use lib.ListN.{length}
use Rattle.lines.specs.Lines.{line_of}
use Rattle.rules.specs.Model.{places}
use Rattle.life.specs.Drain.{DrainingIn}
use Rattle.life.specs.HandBack.{backs}
use Rattle.life.proofs.end.hand_all_back.Given as goal

abbrev pub invariant-loop-n : goal.invariant-loop-n
invariant-loop-n l = DrainingIn (backs l.n.0) l.q l.initial.a l.a

abbrev pub decreases-loop-n : goal.decreases-loop-n
decreases-loop-n l = length (line_of places l.a.lines l.q)
