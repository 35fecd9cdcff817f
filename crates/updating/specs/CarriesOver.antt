-- A state is carried over: all who listen for the dead have been woken, and the front of ready started.
use Rattle.std.specs.Prelude.{◌≡◌, [], false}
use Rattle.std.proofs.Common.{sym, ap, subst, ◌∙◌}
use Rattle.rules.specs.Model.{places, Model, lives_at}
use Rattle.rules.specs.Rules.{dispatched, deserted, updated}
use Rattle.rules.specs.Consistent.{Consistent}
use Rattle.order.specs.Sound.{old_sound}
use Rattle.order.specs.Update.{updates, update_lives}
use Rattle.table.specs.Cells.{model_of, shown_in}
use Rattle.table.specs.declared.Arrays.{Arrays}
use Rattle.table.specs.declared.Desk.{Desk}
use Rattle.verbs.specs.Steps.{StepsIn, TurnsIn}
use Rattle.events.specs.Events.{filled_lives}
use Rattle.life.specs.LetGo.{SoundIn, let_from, let_all}
use Rattle.threads.specs.Ran.{filled_by}
use Rattle.nucleus.specs.View.{view, ConsistsBy, Shows}
use Rattle.nucleus.specs.declared.State.{State}

module _ {s : State} (k : ConsistsBy false s) where
  pub starts : SoundIn s.arrays
  starts = record { last = s.desk.last.0; running = s.desk.running.0; whole = k.whole; sound = old_sound (view s) k.consistent }

  pub carries_over : {e : Desk} {a a' : Arrays} → StepsIn s.arrays a (let_from (deserted (model_of 0 0 s.arrays.table.blocks s.arrays.table.words [])) 0 places)
      → TurnsIn s.desk a e a' dispatched → Shows (record { desk = e; arrays = a' }) (updated (view s))
  carries_over {e} {a' = a'} t u =
      let m = view s in
      let v : shown_in e a' ≡ updated m = u.seen ∙ ap dispatched (t.seen s.desk.last.0 s.desk.running.0 ∙ let_all (deserted m) m) in
      record {
        consists = record {
          whole = u.whole;
          filled = filled_by e a'.table.blocks a'.table.words a'.lines e.filled (lives_at m) (u.filled ∙ filled_lives k)
              (λ p. ap (λ (x : Model). lives_at x p) v ∙ update_lives m k.consistent p);
          consistent = subst Consistent (sym v) (updates m k.consistent);
        };
        seen = v;
      }
