-- What an event knows of the caller, and of who stands in no line: where the lent arrays stand for a Sound model, the rules say it.
use Rattle.std.specs.Prelude.{◌≡◌, List, false, ℕ, ◌<◌, get_or}
use Rattle.std.proofs.Common.{ap}
use Rattle.lists.specs.Lists.{none}
use Rattle.lines.specs.Lines.{line_of, Loose}
use Rattle.rules.specs.Model.{places, line_count, Thread, thread}
use Rattle.rules.specs.Rules.{mine}
use Rattle.rules.specs.Consistent.{belongs}
use Rattle.order.specs.Sound.{Sound, sound, small}
use Rattle.order.specs.Stood.{stands_out}
use Rattle.order.specs.Caller.{alive, nowhere}
use Rattle.table.specs.Cells.{cell, model_of, shown, Stands}
use Rattle.table.specs.Rows.{thread_at, line_at}
use Rattle.table.specs.declared.Desk.{Desk}

-- what belongs to no line stands in none
pub loose : (y x : ℕ) (b w l : List ℕ) → Sound (model_of y x b w l) → (p : ℕ) → ((q : ℕ) → belongs (model_of y x b w l) (thread (model_of y x b w l) p) q ≡ false) → Loose line_count (line_of places l) p
loose y x b w l S p n q h = rw (← line_at y x b w l q h) (stands_out (model_of y x b w l) S p q (n q))

module _ {d : Desk} {b w l : List ℕ} (k : Stands d b w l) where
  pub sounds : Sound (shown d b w l)
  sounds = sound (shown d b w l) k.consistent

  module _ (busy : d.running.0 ≡ none → ⊥) where
    pub caller_place : d.running.0 < places
    caller_place = small (shown d b w l) sounds d.running.0 (alive (shown d b w l) sounds busy)

    pub caller_loose : Loose line_count (line_of places l) d.running.0
    caller_loose = loose d.last.0 d.running.0 b w l sounds d.running.0 (nowhere (shown d b w l) sounds busy)

    pub mine_is : mine (shown d b w l) ≡ get_or b (cell 0 d.running.0) 0
    mine_is = ap (λ (t : Thread). t.number) (thread_at d.last.0 d.running.0 b w l d.running.0 caller_place)
