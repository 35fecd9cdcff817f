-- Who lives after an accepted event: whoever lived before, but create fills the lowest empty place and end empties those of a family.
-- Here stand the words; the laws of them stand in proofs/Lives.antt.
use Rattle.std.specs.Prelude.{ℕ, Bool, true, false, cond, eqb}
use Rattle.kin.specs.Climb.{leads}
use Rattle.rules.specs.Model.{Model, lives_at, live}
use Rattle.rules.specs.Rules.{place_of, empty_place}
use Rattle.rules.specs.Consistent.{above}
use Rattle.rules.specs.declared.Event.{Event}
use Rattle.rules.specs.declared.Event.TheVariants.{Create, Send, Receive, Reply, End, WaitClock, SliceEnd, Tick, WaitDevice, Interrupt}

abbrev pub lives_now : Event → Model → ℕ → Bool
lives_now Create m p = cond (eqb p (empty_place m)) true (lives_at m p)
lives_now (Send d w) m p = lives_at m p
lives_now (Receive n) m p = lives_at m p
lives_now (Reply t w) m p = lives_at m p
lives_now (End t) m p = cond (leads (above m) (live m) p (place_of m t.0)) false (lives_at m p)
lives_now WaitClock m p = lives_at m p
lives_now SliceEnd m p = lives_at m p
lives_now Tick m p = lives_at m p
lives_now (WaitDevice i) m p = lives_at m p
lives_now (Interrupt s w) m p = lives_at m p
