-- Event 2, send: the receiver has been waiting for it, or the sender joins its inbox.
use Rattle.std.specs.Prelude.{◌≡◌, refl, List, Result, Ok, Err, [], Bool, true, false, ℕ, ◌+◌, ◌^◌, ◌<◌, get_or}
use Rattle.std.proofs.Common.{sym, ap, ap₂, ◌∙◌, arith, eqb-true}
use Rattle.lists.specs.Lists.{none}
use Rattle.lists.specs.Laws.{and_left}
use Rattle.lines.specs.Lines.{line_of, Loose}
use Rattle.rules.specs.Model.{places, line_count, Sending, Awaiting, Receiving, Thread, Model, thread}
use Rattle.rules.specs.Rules.{place_of, mine, join, stands, woken, hears, send_to, send}
use Rattle.rules.specs.Values.{refusal_code}
use Rattle.rules.specs.declared.Number.{Number}
use Rattle.rules.specs.declared.Place.{Place}
use Rattle.rules.specs.declared.Refusal.{Refusal}
use Rattle.rules.specs.declared.Event.TheVariants.{Send}
use Rattle.order.specs.Belongs.{in_none}
use Rattle.table.specs.Cells.{cell, thread_of, shown, Stands, inbox_lines, inbox_line, running}
use Rattle.table.specs.Rows.{thread_at}
use Rattle.table.specs.declared.Desk.{Desk}
use Rattle.events.specs.declared.Outcome.{Outcome}
use Rattle.verbs.specs.Steps.{Steps, Turns, changing, turns}
use Rattle.events.specs.Events.{Did, answered, refused, done, word_fits}
use Rattle.verbs.specs.Caller.{sounds, loose, mine_is}
use Rattle.verbs.specs.Address.{CallsOn, met_place, Addressed, refused_not}

-- the rule, its look-ups done
send_as : (m : Model) (d w p me : ℕ) → place_of m d ≡ p → mine m ≡ me → send d w m ≡ send_to p me d w m
send_as m d w p me e f = ap₂ (λ (p me : ℕ). send_to p me d w m) e f

module _ {d : Desk} {b w l : List ℕ} {n p : ℕ} (k : CallsOn d b w l n p) {me : ℕ} (own : me ≡ get_or b (cell 0 d.running.0) 0) where
  listening : hears (thread (shown d b w l) p) me ≡ hears (thread_of b [] p) me
  listening = ap (λ (t : Thread). hears t me) (thread_at d.last.0 d.running.0 b w l p (met_place k))

  looked : (x : ℕ) → send n x (shown d b w l) ≡ send_to p me n x (shown d b w l)
  looked x = send_as (shown d b w l) n x p me k.at (mine_is k.stands k.busy ∙ sym own)

  module _ {t : Bool} (h : t ≡ hears (thread_of b [] p) me) where
    -- it listens
    pub met_loose : t ≡ true → Loose line_count (line_of places l) p
    met_loose y =
        let m = shown d b w l in
        let five : (thread m p).standing ≡ Receiving = eqb-true _ _ (and_left _ _ (listening ∙ sym h ∙ y)) in
        loose d.last.0 d.running.0 b w l (sounds k.stands) p (in_none m (thread m p) (omega arith))

    pub met : t ≡ true → {e : Desk} {b' w' l' : List ℕ} {x : ℕ} → e ≡ running none d → Steps b w l b' w' l' (λ m. woken p 0 me x (changing d.running.0 (stands Awaiting n x) m)) → Turns d b w l e b' w' l' (send n x)
    met y {x = x} z s = turns (send n x) s z (sym (looked x ∙ rw (listening, ← h, y)))

    -- it does not
    pub unmet : t ≡ false → {e : Desk} {b' w' l' : List ℕ} {x : ℕ} → e ≡ running none d → Steps b w l b' w' l' (λ m. join (inbox_lines + p) d.running.0 (changing d.running.0 (stands Sending n x) m)) → Turns d b w l e b' w' l' (send n x)
    unmet y {x = x} z s = turns (send n x) s z (sym (looked x ∙ rw (listening, ← h, y, inbox_line p)))

-- ---- the event

module _ {d : Desk} {b w l : List ℕ} (k : Stands d b w l) (n : Number) (x : ℕ) (short : x < 2 ^ 32) {r : Result Place Refusal} (a : Addressed d b w l n.0 r) where
  pub send_not : {f : Refusal} → r ≡ Err f → Did d b w l (Send n x) (answered (refusal_code f) d) b w l
  send_not {f} z = refused k (Send n x) (word_fits short) (refusal_code f) (refused_not f) (a.not z 0) refl refl

  pub sent : {p : Place} → r ≡ Ok p → {e : Desk} {b' w' l' : List ℕ} → Turns d b w l e b' w' l' (send n.0 x) → {o : Outcome} → o ≡ answered 0 e → Did d b w l (Send n x) o b' w' l'
  sent z t = done k (Send n x) (word_fits short) (a.past z 0) refl (λ p. refl) t
