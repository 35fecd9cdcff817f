-- The lines, case by case: ready, the clock's, a device's, an inbox; and what belongs there.
use Rattle.std.specs.Prelude.{ℕ, ◌-◌, ◌<◌, ◌≡◌, ◌&&◌, eqb}
use Rattle.std.proofs.Common.{sym, subst, arith, ne_eqb, lt-ltb, le-ltb}
use Rattle.std.proofs.Math.Decide.{ℕ_discrete, dec_lt}
use Rattle.rules.specs.Model.{devices, queue_count, Sending, AtDevice, Thread, Model, ready, clock, device, inbox, thread}
use Rattle.rules.specs.Consistent.{belongs}

-- what holds of each of the four holds of every line
pub by_line : (P : ℕ → Type 0) → P ready → P clock → ((i : ℕ) → i < devices → P (device i)) → ((r : ℕ) → P (inbox r)) → (q : ℕ) → P q
by_line P a b c d q = elim (ℕ_discrete q ready) [
  | yes e ↦ subst P (sym e) a
  | no n ↦ elim (ℕ_discrete q clock) [
    | yes e ↦ subst P (sym e) b
    | no k ↦ elim (dec_lt q queue_count) [
      | yes h ↦ let e : device (q - 2) ≡ q = omega arith in subst P e (c (q - 2) (omega arith))
      | no h ↦ let e : inbox (q - queue_count) ≡ q = omega arith in subst P e (d (q - queue_count))
    ]
  ]
]

module _ (m : Model) (t : Thread) where
  pub at_device : (i : ℕ) → i < devices → belongs m t (device i) ≡ eqb t.standing AtDevice && eqb (device i) (device t.partner)
  at_device i h = rw (ne_eqb (device i) ready (omega arith), ne_eqb (device i) clock (omega arith), lt-ltb (device i) queue_count (omega arith))

  pub at_inbox : (r : ℕ) → belongs m t (inbox r) ≡ eqb t.standing Sending && eqb t.partner (thread m r).number
  at_inbox r =
      let e : inbox r - queue_count ≡ r = omega arith in
      rw (ne_eqb (inbox r) ready (omega arith), ne_eqb (inbox r) clock (omega arith), le-ltb (inbox r) queue_count (omega arith), e)
