-- Events 6, 7 and 8: wait for the clock, slice end, tick.
use Rattle.std.specs.Prelude.{◌≡◌, refl, List, [], ◌∷◌, ◌++◌, Option, Some, ℕ, ◌<◌}
use Rattle.std.proofs.Common.{sym, ◌∙◌, arith, eq-eqb, ne_eqb, get_or-set_other}
use Rattle.lists.specs.Lists.{none}
use Rattle.lines.specs.Lines.{line_of, Loose}
use Rattle.rules.specs.Values.{nobody, place_known}
use Rattle.rules.specs.Known.{place_some}
use Rattle.rules.specs.declared.Place.{Place}
use Rattle.rules.specs.Model.{places, line_count, Model, ready, clock, line}
use Rattle.rules.specs.Rules.{relined, woken, readied, rung, act}
use Rattle.rules.specs.declared.Event.TheVariants.{WaitClock, SliceEnd, Tick}
use Rattle.table.specs.Cells.{shown, Stands, running}
use Rattle.table.specs.declared.Desk.{Desk}
use Rattle.events.specs.declared.Outcome.{Outcome}
use Rattle.verbs.specs.Caller.{caller_place, caller_loose}
use Rattle.verbs.specs.Steps.{Steps, Turns, stays, turns}
use Rattle.events.specs.Events.{Did, answered, refused, done, no_word}
use Rattle.life.specs.Drain.{drained, drains, Spares}

-- the caller, who runs at p and stands in no line
pub record CallsAt (d : Desk) (l : List ℕ) (p : ℕ) : Type 0 where
  pub is : p ≡ d.running.0
  pub busy : d.running.0 ≡ none → ⊥
  pub place : p < places
  pub loose : Loose line_count (line_of places l) p

pub calls : {d : Desk} {b w l : List ℕ} → Stands d b w l → {o : Option Place} → o ≡ place_known d.running.0 → {p : Place} → o ≡ Some p → CallsAt d l p.0
calls k e f = let z = place_some e f in record { is = z.0; busy = z.1; place = rw z.0 (caller_place k z.1); loose = rw z.0 (caller_loose k z.1) }

-- ---- 6

module _ {d : Desk} {b w l : List ℕ} (k : Stands d b w l) where
  pub wait_1 : d.running.0 ≡ none → {r : Outcome} → r ≡ answered 1 d → Did d b w l WaitClock r b w l
  wait_1 e = refused k WaitClock no_word 1 (omega arith) (rw (eq-eqb d.running.0 none e)) refl

  pub wait_0 : (d.running.0 ≡ none → ⊥) → {r : Desk} {b' w' l' : List ℕ} → Turns d b w l r b' w' l' (act WaitClock) → {o : Outcome} → o ≡ answered 0 r → Did d b w l WaitClock o b' w' l'
  wait_0 n t = done k WaitClock no_word (rw (ne_eqb d.running.0 none n)) refl (λ p. refl) t

  -- ---- 7

  pub slice_idle : d.running.0 ≡ none → {o : Outcome} → o ≡ answered 0 d → Did d b w l SliceEnd o b w l
  slice_idle e = done k SliceEnd no_word refl refl (λ p. refl) (record { whole = k.whole; filled = refl; seen = rw (eq-eqb d.running.0 none e) })

  pub slice_busy : (d.running.0 ≡ none → ⊥) → {r : Desk} {b' w' l' : List ℕ} → Steps b w l b' w' l' (readied d.running.0) → r ≡ running none d → {o : Outcome} → o ≡ answered 0 r → Did d b w l SliceEnd o b' w' l'
  slice_busy n s e = done k SliceEnd no_word refl refl (λ p. refl) (turns (act SliceEnd) s e (rw (ne_eqb d.running.0 none n)))

-- ---- 8

-- what happens to one who waits for what comes from outside, and now gets the word w
abbrev pub rings : ℕ → ℕ → Model → Model
rings w p = woken p 0 nobody w

pub rings_spare : (w q : ℕ) → ready < q → Spares (rings w) q
rings_spare w q h p m = get_or-set_other m.lines ready q (line m ready ++ (p ∷ [])) [] (omega arith)

rung_drained : (ps : List ℕ) (m : Model) → rung ps m ≡ drained (rings 0) clock ps m
rung_drained [] m = refl
rung_drained (p ∷ ps) m = rung_drained ps (rings 0 p (relined clock ps m))

pub ticks : {d : Desk} {b w l : List ℕ} → Stands d b w l → {b' w' l' : List ℕ} → Steps b w l b' w' l' (drains (rings 0) clock) → {o : Outcome} → o ≡ answered 0 d → Did d b w l Tick o b' w' l'
ticks {d} {b} {w} {l} k s =
    let m = shown d b w l in
    let t = stays {d = d} s in
    done k Tick no_word refl refl (λ p. refl) (record { whole = t.whole; filled = refl; seen = t.seen ∙ sym (rung_drained (line m clock) m) })
