-- Event 5, end: the thread at p leaves the line where its standing puts it, or stops running.
use Rattle.std.specs.Prelude.{◌≡◌, refl, List, false, cond, ℕ, ◌+◌, ◌<◌, eqb, get_or}
use Rattle.std.proofs.Common.{sym, ap, ◌∙◌, arith, eq-eqb, ne_eqb, eqb-true}
use Rattle.lists.specs.Lists.{none, without}
use Rattle.lists.specs.Laws.{by_test}
use Rattle.lines.specs.Lines.{line_of, Turned}
use Rattle.rules.specs.Model.{places, devices, line_count, Running, Ready, Sending, Waiting, AtDevice, Thread, Model, ready, clock, device, inbox}
use Rattle.rules.specs.Rules.{place_of, runs, leave, out_of_line}
use Rattle.table.specs.Cells.{cell, thread_of, shown, Whole, inbox_lines, inbox_line, running}
use Rattle.table.specs.Rows.{thread_at}
use Rattle.table.specs.declared.Desk.{Desk}
use Rattle.verbs.specs.Steps.{Turns, left, stays}
use Rattle.verbs.specs.Find.{found, found_is}

-- the line where the thread at p stands, or none
abbrev pub line_in : List ℕ → ℕ → ℕ
line_in b p =
    cond (eqb (get_or b (cell 1 p) 0) Ready) ready
    (cond (eqb (get_or b (cell 1 p) 0) Sending) (inbox (found b (get_or b (cell 2 p) 0)))
    (cond (eqb (get_or b (cell 1 p) 0) Waiting) clock
    (cond (eqb (get_or b (cell 1 p) 0) AtDevice) (device (get_or b (cell 2 p) 0)) none)))

-- if it sends, its partner stands at a place, and if it waits at a device, that is one
pub record Served (b : List ℕ) (p : ℕ) : Type 0 where
  pub sends : get_or b (cell 1 p) 0 ≡ Sending → found b (get_or b (cell 2 p) 0) < places
  pub waits : get_or b (cell 1 p) 0 ≡ AtDevice → get_or b (cell 2 p) 0 < devices

-- ---- the rule, its look-up of the thread done

abbrev out_as : Thread → ℕ → Model → Model
out_as t p m =
    cond (eqb t.standing Running) (runs none m)
    (cond (eqb t.standing Ready) (leave ready p m)
    (cond (eqb t.standing Sending) (leave (inbox (place_of m t.partner)) p m)
    (cond (eqb t.standing Waiting) (leave clock p m)
    (cond (eqb t.standing AtDevice) (leave (device t.partner) p m) m))))

abbrev off_line : ℕ → ℕ → Model → Model
off_line q p m = cond (eqb q none) m (leave q p m)

-- whom it sends to stands at a place
pub sent_low : (b : List ℕ) (p : ℕ) {s k r : ℕ} → Served b p → s ≡ get_or b (cell 1 p) 0 → s ≡ Sending → k ≡ get_or b (cell 2 p) 0 → r ≡ found b k → r < places
sent_low b p v e z f g = rw (g, f) (v.sends (sym e ∙ z))

-- where it waits is a device
pub waits_low : (b : List ℕ) (p : ℕ) {s k : ℕ} → Served b p → s ≡ get_or b (cell 1 p) 0 → s ≡ AtDevice → k ≡ get_or b (cell 2 p) 0 → k < devices
waits_low b p v e z f = rw f (v.waits (sym e ∙ z))

-- the line, by the standing that is read
module _ (b : List ℕ) (p : ℕ) {s : ℕ} (e : s ≡ get_or b (cell 1 p) 0) where
  off : (x : ℕ) → (s ≡ x → ⊥) → eqb (get_or b (cell 1 p) 0) x ≡ false
  off x n = ne_eqb _ x (λ z. n (e ∙ z))

  pub line_ready : s ≡ Ready → ready ≡ line_in b p
  line_ready z = rw (eq-eqb _ Ready (sym e ∙ z))

  module _ (n₂ : s ≡ Ready → ⊥) where
    pub line_sending : s ≡ Sending → {k r : ℕ} → k ≡ get_or b (cell 2 p) 0 → r ≡ found b k → inbox_lines + r ≡ line_in b p
    line_sending z {r = r} f g = inbox_line r ∙ rw (off Ready n₂, eq-eqb _ Sending (sym e ∙ z), g, f)

    module _ (n₃ : s ≡ Sending → ⊥) where
      pub line_waiting : s ≡ Waiting → clock ≡ line_in b p
      line_waiting z = rw (off Ready n₂, off Sending n₃, eq-eqb _ Waiting (sym e ∙ z))

      module _ (n₆ : s ≡ Waiting → ⊥) where
        pub line_device : s ≡ AtDevice → {k : ℕ} → k ≡ get_or b (cell 2 p) 0 → 2 + k ≡ line_in b p
        line_device z f = rw (off Ready n₂, off Sending n₃, off Waiting n₆, eq-eqb _ AtDevice (sym e ∙ z), f)

        pub line_none : (s ≡ AtDevice → ⊥) → none ≡ line_in b p
        line_none n₇ = rw (off Ready n₂, off Sending n₃, off Waiting n₆, off AtDevice n₇)

line_low : (b : List ℕ) (p : ℕ) → Served b p → (line_in b p ≡ none → ⊥) → line_in b p < line_count
line_low b p s n =
    let st = get_or b (cell 1 p) 0 in
    by_test (eqb st Ready)
    (λ e. rw e (omega arith))
    (λ e. by_test (eqb st Sending)
    (λ f. let i = s.sends (eqb-true st Sending f) in rw (e, f) (omega arith))
    (λ f. by_test (eqb st Waiting)
    (λ g. rw (e, f, g) (omega arith))
    (λ g. by_test (eqb st AtDevice)
    (λ h. let i = s.waits (eqb-true st AtDevice h) in rw (e, f, g, h) (omega arith))
    (λ h. absurd (n (rw (e, f, g, h)))))))

pub leaves_low : (b : List ℕ) (p : ℕ) {q : ℕ} → Served b p → q ≡ line_in b p → (q ≡ none → ⊥) → q < line_count
leaves_low b p s u z = rw u (line_low b p s (λ y. z (u ∙ y)))

module _ (d : Desk) {b w l : List ℕ} (k : Whole b w l) {p : ℕ} (h : p < places) where
  as_read : out_of_line p (shown d b w l) ≡ out_as (thread_of b w p) p (shown d b w l)
  as_read = ap (λ (t : Thread). out_as t p (shown d b w l)) (thread_at d.last.0 d.running.0 b w l p h)

  -- it runs
  pub leaves_off : get_or b (cell 1 p) 0 ≡ Running → {e : Desk} → e ≡ running none d → Turns d b w l e b w l (out_of_line p)
  leaves_off z y = record { whole = k; filled = ap (λ (c : Desk). c.filled) y; seen = rw y (sym (as_read ∙ rw (eq-eqb (get_or b (cell 1 p) 0) Running z))) }

  -- it does not
  module _ (s : Served b p) (r : get_or b (cell 1 p) 0 ≡ Running → ⊥) {q : ℕ} (u : q ≡ line_in b p) where
    out_as_lem : out_of_line p (shown d b w l) ≡ off_line q p (shown d b w l)
    out_as_lem =
        let st = get_or b (cell 1 p) 0 in
        let pa = get_or b (cell 2 p) 0 in
        let c = ne_eqb st Running r in
        as_read ∙ by_test (eqb st Ready)
        (λ e. rw (u, c, e))
        (λ e. by_test (eqb st Sending)
        (λ f.
        let i = s.sends (eqb-true st Sending f) in
        rw (u, c, e, f, found_is d.last.0 d.running.0 pa b w l, ne_eqb (inbox (found b pa)) none (omega arith)))
        (λ f. by_test (eqb st Waiting)
        (λ g. rw (u, c, e, f, g))
        (λ g. by_test (eqb st AtDevice)
        (λ h. let i = s.waits (eqb-true st AtDevice h) in rw (u, c, e, f, g, h, ne_eqb (device pa) none (omega arith)))
        (λ h. rw (u, c, e, f, g, h)))))

    pub leaves_not : q ≡ none → Turns d b w l d b w l (out_of_line p)
    leaves_not z = record { whole = k; filled = refl; seen = sym (out_as_lem ∙ rw z) }

    pub leaves_line : (q ≡ none → ⊥) → {l' : List ℕ} → Turned places line_count l l' q (without p (line_of places l q)) → Turns d b w l d b w l' (out_of_line p)
    leaves_line z t =
        let v = stays {d = d} (left k (leaves_low b p s u z) p t) in
        record { whole = v.whole; filled = refl; seen = v.seen ∙ sym (out_as_lem ∙ rw (ne_eqb q none z)) }
