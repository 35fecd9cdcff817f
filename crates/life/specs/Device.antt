-- Events 9 and 10: wait at a device, interrupt.
use Rattle.std.specs.Prelude.{◌≡◌, refl, List, Bool, ℕ, ◌≤◌, ◌<◌}
use Rattle.std.proofs.Common.{sym, ◌∙◌, arith, eq-eqb, ne_eqb, lt-ltb, le-ltb}
use Rattle.lists.specs.Lists.{none}
use Rattle.lists.specs.Laws.{by_test}
use Rattle.rules.specs.Model.{devices, device, line}
use Rattle.rules.specs.Devices.{first_pending}
use Rattle.rules.specs.Rules.{served_at, act}
use Rattle.rules.specs.Consistent.{Fits}
use Rattle.rules.specs.declared.Device.{Device}
use Rattle.rules.specs.declared.Pending.{Pending}
use Rattle.rules.specs.declared.Event.TheVariants.{WaitDevice, Interrupt}
use Rattle.order.specs.Devices.{first_low}
use Rattle.table.specs.Cells.{Stands}
use Rattle.table.specs.Rows.{line_at}
use Rattle.table.specs.declared.Desk.{Desk}
use Rattle.events.specs.declared.Outcome.{Outcome}
use Rattle.verbs.specs.Steps.{Steps, Turns, stays}
use Rattle.events.specs.Events.{Did, answered, refused, done, no_word}
use Rattle.life.specs.Drain.{First}
use Rattle.life.specs.Clock.{rings}

-- ---- 9

module _ {d : Desk} {b w l : List ℕ} (k : Stands d b w l) (i : Device) where
  pub device_1 : d.running.0 ≡ none → {r : Outcome} → r ≡ answered 1 d → Did d b w l (WaitDevice i) r b w l
  device_1 e = refused k (WaitDevice i) no_word 1 (omega arith) (rw (eq-eqb d.running.0 none e)) refl

  module _ (n : d.running.0 ≡ none → ⊥) where
    pub device_2 : devices ≤ i.0 → {r : Outcome} → r ≡ answered 2 d → Did d b w l (WaitDevice i) r b w l
    device_2 h = refused k (WaitDevice i) no_word 2 (omega arith) (rw (ne_eqb d.running.0 none n, le-ltb i.0 devices h)) refl

    pub device_0 : i.0 < devices → {r : Desk} {b' w' l' : List ℕ} → Turns d b w l r b' w' l' (act (WaitDevice i)) → {o : Outcome} → o ≡ answered 0 r → Did d b w l (WaitDevice i) o b' w' l'
    device_0 h t = done k (WaitDevice i) no_word (rw (ne_eqb d.running.0 none n, lt-ltb i.0 devices h)) refl (λ p. refl) t

-- ---- 10

pub pending_low : (s : Pending) {i : ℕ} → i ≡ first_pending s → (i ≡ none → ⊥) → i < devices
pending_low s e n = rw e (first_low s (λ z. n (e ∙ z)))

-- the first who waits at i, if there was one, was served
first_served : {w i : ℕ} {b x l b' x' l' : List ℕ} {r : Bool} → i < devices → First (rings w) (device i) b x l b' x' l' r
    → Steps b x l b' x' l' (λ m. served_at i (line m (device i)) w m)
first_served {w} {i} {b} {x} {l} {r = r} h f =
    by_test r
    (λ t. let o = (f.some t).2 in record { whole = o.steps.whole; seen = λ y z. o.steps.seen y z ∙ rw (line_at y z b x l (device i) (omega arith), o.was) })
    (λ t. let o = f.none t in record { whole = o.1.whole; seen = λ y z. o.1.seen y z ∙ rw (line_at y z b x l (device i) (omega arith), o.0) })

module _ {d : Desk} {b w l : List ℕ} (k : Stands d b w l) (s : Pending) (x : ℕ) (fits : Fits (Interrupt s x)) {i : ℕ} (e : i ≡ first_pending s) where
  -- an empty set
  pub interrupt_none : i ≡ none → {o : Outcome} → o ≡ answered 0 d → Did d b w l (Interrupt s x) o b w l
  interrupt_none z = done k (Interrupt s x) fits refl refl (λ p. refl) (record { whole = k.whole; filled = refl; seen = rw (eq-eqb (first_pending s) none (sym e ∙ z)) })

  pub interrupt_served : (i ≡ none → ⊥) → {b' w' l' : List ℕ} {r : Bool} → First (rings x) (device i) b w l b' w' l' r → {o : Outcome} → o ≡ answered 0 d → Did d b w l (Interrupt s x) o b' w' l'
  interrupt_served n f =
      let t = stays {d = d} (first_served (pending_low s e n) f) in
      done k (Interrupt s x) fits refl refl (λ p. refl) (record { whole = t.whole; filled = refl; seen = t.seen ∙ rw (e, ne_eqb (first_pending s) none (λ z. n (e ∙ z))) })
