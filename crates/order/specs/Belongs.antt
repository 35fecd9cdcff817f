-- Which line a thread belongs to: none, ready, the clock's, a device's, or the inbox of one place.
use Rattle.std.specs.Prelude.{ℕ, ◌<◌, ◌≡◌, refl, ◌≢◌, false, eqb}
use Rattle.std.proofs.Common.{sym, ◌∙◌, arith, eq-eqb, ne_eqb}
use Rattle.std.proofs.Math.Decide.{ℕ_discrete}
use Rattle.rules.specs.Model.{devices, Empty, Ready, Sending, Waiting, AtDevice, Thread, Model, ready, clock, device, inbox, thread}
use Rattle.rules.specs.Consistent.{belongs}
use Rattle.order.specs.ByLine.{by_line, at_device, at_inbox}
use Rattle.order.specs.Sound.{Sound}

-- a standing that puts a thread into no line
abbrev pub Lineless : ℕ → Type 0
Lineless st = (st ≢ Ready) × (st ≢ Sending) × (st ≢ Waiting) × (st ≢ AtDevice)

module _ (m : Model) (t : Thread) where
  pub in_none : Lineless t.standing → (q : ℕ) → belongs m t q ≡ false
  in_none k =
      by_line (λ q. belongs m t q ≡ false)
      (ne_eqb t.standing Ready k.0)
      (ne_eqb t.standing Waiting k.2)
      (λ i h. at_device m t i h ∙ rw (ne_eqb t.standing AtDevice k.3))
      (λ r. at_inbox m t r ∙ rw (ne_eqb t.standing Sending k.1))

  pub in_ready : t.standing ≡ Ready → (q : ℕ) → belongs m t q ≡ eqb q ready
  in_ready e =
      by_line (λ q. belongs m t q ≡ eqb q ready) (rw e) (rw e)
      (λ i h. at_device m t i h ∙ rw e (sym (ne_eqb (device i) ready (omega arith))))
      (λ r. at_inbox m t r ∙ rw e (sym (ne_eqb (inbox r) ready (omega arith))))

  pub in_clock : t.standing ≡ Waiting → (q : ℕ) → belongs m t q ≡ eqb q clock
  in_clock e =
      by_line (λ q. belongs m t q ≡ eqb q clock) (rw e) (rw e)
      (λ i h. at_device m t i h ∙ rw e (sym (ne_eqb (device i) clock (omega arith))))
      (λ r. at_inbox m t r ∙ rw e (sym (ne_eqb (inbox r) clock (omega arith))))

  pub in_device : t.standing ≡ AtDevice → (d : ℕ) → t.partner ≡ d → d < devices → (q : ℕ) → belongs m t q ≡ eqb q (device d)
  in_device e d f g =
      by_line (λ q. belongs m t q ≡ eqb q (device d))
      (rw e (sym (ne_eqb ready (device d) (omega arith))))
      (rw e (sym (ne_eqb clock (device d) (omega arith))))
      (λ i h. at_device m t i h ∙ rw (e, f))
      (λ r. at_inbox m t r ∙ rw e (sym (ne_eqb (inbox r) (device d) (omega arith))))

  pub in_inbox : Sound m → (c : ℕ) → (thread m c).standing ≢ Empty → t.standing ≡ Sending → t.partner ≡ (thread m c).number → (q : ℕ) → belongs m t q ≡ eqb q (inbox c)
  in_inbox S c h e f =
      by_line (λ q. belongs m t q ≡ eqb q (inbox c))
      (rw e (sym (ne_eqb ready (inbox c) (omega arith))))
      (rw e (sym (ne_eqb clock (inbox c) (omega arith))))
      (λ i g. at_device m t i g ∙ rw e (sym (ne_eqb (device i) (inbox c) (omega arith))))
      (λ r. at_inbox m t r ∙ rw (e, f) (elim (ℕ_discrete r c) [
        | yes k ↦ rw k (eq-eqb (thread m c).number (thread m c).number refl ∙ sym (eq-eqb (inbox c) (inbox c) refl))
        | no k ↦ ne_eqb (thread m c).number (thread m r).number (λ z. k (sym (S.differ c r h z))) ∙ sym (ne_eqb (inbox r) (inbox c) (omega arith))
      ]))
