-- Whom an answer names: after an event each answer is the one that was there before, or one from no thread (255), or it names the one that answers in this
-- event, which lived when the event came.
-- Here stand the words; the laws of them stand in proofs/Answerer.antt.
use Rattle.std.specs.Prelude.{ℕ, ◌≤◌, ◌≡◌, ◌≢◌, ◌⊎◌}
use Rattle.lists.specs.Lists.{none, count}
use Rattle.rules.specs.Values.{nobody}
use Rattle.rules.specs.Model.{Model, inbox, thread, line}
use Rattle.rules.specs.Rules.{place_of, mine}
use Rattle.rules.specs.declared.Event.{Event}
use Rattle.rules.specs.declared.Event.TheVariants.{Create, Send, Receive, Reply, End, WaitClock, SliceEnd, Tick, WaitDevice, Interrupt}
use Rattle.order.specs.Sound.{Live}
use Rattle.order.specs.EndFamily.{Of}

-- ---- of every event

-- n is the number of the one that answers in an event: of the caller that sends or replies, of one whose word a receive takes, of one that is ended,
-- alone or with its family
abbrev pub Answering : Event → Model → ℕ → Type 0
Answering Create m n = ⊥
Answering (Send d w) m n = mine m ≡ n
Answering (Receive x) m n = (p : ℕ) × (1 ≤ count p (line m (inbox m.running))) × ((thread m p).number ≡ n)
Answering (Reply t w) m n = mine m ≡ n
Answering (End t) m n = (place_of m t.0 ≢ none) × Of m (place_of m t.0) (place_of m n)
Answering WaitClock m n = ⊥
Answering SliceEnd m n = ⊥
Answering Tick m n = ⊥
Answering (WaitDevice i) m n = ⊥
Answering (Interrupt s w) m n = ⊥

-- the answer at s was there before, or is from no thread, or names the one that answers, which lives
abbrev pub AnswerFrom : Event → Model → ℕ → ℕ → ℕ → ℕ → Type 0
AnswerFrom e m s c n w = (((thread m s).code ≡ c) × ((thread m s).who ≡ n) × ((thread m s).answer ≡ w)) ⊎ ((n ≡ nobody) ⊎ (Answering e m n × Live m n))
