-- `ring_all` meets its contract: what is left of the clock queue is left to do.
use lib.ListN.{length}
use Rattle.lines.specs.Lines.{line_of}
use Rattle.rules.specs.Model.{places, clock}
use Rattle.life.specs.Drain.{DrainingIn}
use Rattle.life.specs.Clock.{rings}
use Rattle.life.proofs.clock.ring_all.Given as goal

abbrev pub invariant-loop : goal.invariant-loop
invariant-loop l = DrainingIn (rings 0) clock l.initial.a l.a

abbrev pub decreases-loop : goal.decreases-loop
decreases-loop l = length (line_of places l.a.lines clock)
