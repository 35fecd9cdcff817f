-- Every turn comes: in a consistent nucleus a ready thread with k ahead of it runs by the (k + 1)th slice end that acts, or is ended first,
-- whatever events come between.
-- Here stand the words; the laws of them stand in proofs/TurnComes.antt.
use Rattle.std.specs.Prelude.{ℕ, suc, ◌+◌, ◌≤◌, ◌≡◌, ◌⊎◌, List, [], ◌∷◌, true, not, take, drop}
use Rattle.lists.specs.Lists.{bit}
use Rattle.rules.specs.Model.{Ready, Model, ready, thread, line}
use Rattle.rules.specs.Rules.{place_of, idle, choice, not_live, refusal, next, after}
use Rattle.rules.specs.declared.Number.{Number}
use Rattle.rules.specs.declared.Event.{Event}
use Rattle.rules.specs.declared.Event.TheVariants.{Create, Send, Receive, Reply, End, WaitClock, SliceEnd, Tick, WaitDevice, Interrupt}
use Rattle.rules.specs.declared.Choice.TheVariants.{Run}
use Rattle.order.specs.Ahead.{ahead}
use Rattle.order.specs.EndFamily.{Of}

-- ---- the words of the theorem

-- the place p holds the thread n, which is ready, with at most k ahead of it
pub record Queued (m : Model) (p n k : ℕ) : Type 0 where
  pub standing : (thread m p).standing ≡ Ready
  pub number : (thread m p).number ≡ n
  pub behind : ahead p (line m ready) ≤ k

-- 1 for a slice end that acts: somebody runs when it comes
abbrev pub acting : Event → Model → ℕ
acting Create m = 0
acting (Send d w) m = 0
acting (Receive n) m = 0
acting (Reply t w) m = 0
acting (End t) m = 0
acting WaitClock m = 0
acting SliceEnd m = bit (not (idle m))
acting Tick m = 0
acting (WaitDevice i) m = 0
acting (Interrupt s w) m = 0

-- how many of a history act
abbrev pub slices : List Event → Model → ℕ
slices [] m = 0
slices (e ∷ es) m = acting e m + slices es (next e m)

-- the event is an end that names a thread in whose family n is: n itself, or one that parents lead to from n. (Where it is not refused, that thread lives.)
abbrev pub EndsOver : ℕ → Event → Model → Type 0
EndsOver n e m = (t : Number) × (e ≡ End t) × Of m (place_of m t.0) (place_of m n)

-- the first of these events is such an end, and is not refused
abbrev pub Ends : ℕ → List Event → Model → Type 0
Ends n [] m = ⊥
Ends n (e ∷ es) m = EndsOver n e m × (refusal e m ≡ 0)

-- the turn of n has come, and the choice is to run it; or this event ended it, and nobody has its number now
abbrev pub Come : ℕ → Type 0 → Model → Type 0
Come n ends m = (choice m ≡ Run (record { 0 = n })) ⊎ (ends × (not_live m n ≡ true))

-- it is so by an event before which at most k slice ends acted: at the latest by the (k + 1)th that acts
abbrev pub Comes : ℕ → ℕ → List Event → Model → Type 0
Comes n k es m = (i : ℕ) × (slices (take i es) m ≤ k) × Come n (Ends n (drop i es) (after (take i es) m)) (after (take (suc i) es) m)
