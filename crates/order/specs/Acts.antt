-- What each accepted event does to a Sound nucleus, before the front of ready is started: a Step, in which nobody comes or goes,
-- for create a Swap of one place, and for end a family is dropped.
-- Here stand the words; the laws of them stand in proofs/Acts.antt.
use Rattle.rules.specs.Model.{Model}
use Rattle.rules.specs.Rules.{place_of, next_number, newcomer, creator, empty_place, act}
use Rattle.rules.specs.declared.Event.{Event}
use Rattle.rules.specs.declared.Event.TheVariants.{Create, Send, Receive, Reply, End, WaitClock, SliceEnd, Tick, WaitDevice, Interrupt}
use Rattle.order.specs.Moves.{Step}
use Rattle.order.specs.Fill.{Swap}
use Rattle.order.specs.EndFamily.{Dropped}

abbrev pub Done : Event → Model → Type 0
Done Create m = Swap m (empty_place m) (newcomer (next_number m) (creator m)) (act Create m)
Done (Send d w) m = Step m (act (Send d w) m)
Done (Receive n) m = Step m (act (Receive n) m)
Done (Reply t w) m = Step m (act (Reply t w) m)
Done (End t) m = Dropped m (place_of m t.0) (act (End t) m)
Done WaitClock m = Step m (act WaitClock m)
Done SliceEnd m = Step m (act SliceEnd m)
Done Tick m = Step m (act Tick m)
Done (WaitDevice i) m = Step m (act (WaitDevice i) m)
Done (Interrupt s w) m = Step m (act (Interrupt s w) m)
