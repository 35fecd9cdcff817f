-- No number is given that somebody has or still holds. So a number in a live thread's answer never comes to mean another thread than the one that answered, as
-- long as the answer stands.
use Rattle.std.specs.Prelude.{ℕ, zero, suc, ◌≤◌, ◌≡◌, refl, ◌≢◌, ◌⊎◌, List, [], ◌∷◌, Bool, true, false, cond, take, eqb}
use Rattle.std.proofs.Common.{sym, ap, subst, ◌∙◌, inl, inr, ⊎_elim, arith, eqb-true}
use Rattle.std.proofs.Math.Decide.{ℕ_discrete}
use Rattle.lists.specs.Laws.{by_test, never}
use Rattle.rules.specs.Values.{nobody}
use Rattle.rules.specs.Model.{last_number, Empty, Thread, Model, thread}
use Rattle.rules.specs.Rules.{barred, next_number, dispatched, act, full, refusal, next, given, after}
use Rattle.rules.specs.Consistent.{Fits, Consistent}
use Rattle.rules.specs.declared.Event.{Event}
use Rattle.rules.specs.declared.Event.TheVariants.{Create, Send, Receive, Reply, End, WaitClock, SliceEnd, Tick, WaitDevice, Interrupt}
use Rattle.order.specs.Sound.{sound, kin}
use Rattle.order.specs.Places.{NumberAt, HeldAt, lives_at_lem, at_lives, not_barred}
use Rattle.order.specs.Moves.{Kept}
use Rattle.order.specs.Fill.{Swap}
use Rattle.order.specs.Dispatch.{dispatch_kept}
use Rattle.order.proofs.Create.{given_clear}
use Rattle.order.specs.Acts.{Done}
use Rattle.order.proofs.Acts.{does, acts_sound}
use Rattle.order.specs.Keeps.{AllFit}
use Rattle.order.proofs.Keeps.{keeps}
use Rattle.order.specs.Answerer.{Answering}
use Rattle.order.proofs.Answerer.{answerer}
use Rattle.order.specs.Unheld.{HeldOn}

-- ---- what create gives: a number 0..253 that no live thread has and no live thread's answer names. (It is refused only when full: `refusal`.)
pub gives_unheld : (m : Model) → Consistent m → refusal Create m ≡ 0
    → (given Create m ≤ last_number) × ((s : ℕ) → (NumberAt m s (given Create m) → ⊥) × (HeldAt m s (given Create m) → ⊥))
gives_unheld m C z =
    by_test (full m)
    (λ t. let y : ◌≡◌ {A = ℕ} 6 0 = rw t at z in absurd (omega arith))
    (λ t. let g = given_clear m (sound m C) in rw t (g.0, not_barred m (sound m C) (next_number m) g.1))

-- ---- one event: whose answer names n after it stood there before, or n was live; either way n was barred, and whoever has n had it
module _ (m k : Model) (r n : ℕ) where
  kept_number : Kept m k → NumberAt k r n → NumberAt m r n
  kept_number K h = (lives_at_lem m r (sym (K.lives r) ∙ at_lives k r h.0), sym (K.numbers r) ∙ h.1)

  swapped_number : (p : ℕ) (t : Thread) → Swap m p t k → NumberAt k r n → NumberAt m r n ⊎ ((t.standing ≢ Empty) × (t.number ≡ n))
  swapped_number p t W h = elim (ℕ_discrete r p) [
    | yes e ↦ let i : NumberAt k p n = rw e at h in inr (rw W.own at i)
    | no z ↦ inl (lives_at_lem m r (sym (W.lives r z) ∙ at_lives k r h.0), sym (W.numbers r z) ∙ h.1)
  ]

module _ (e : Event) (m : Model) (C : Consistent m) (f : Fits e) (p n : ℕ) (low : n ≤ last_number) (H : HeldAt (next e m) p n) where
  was_held : (thread m p).who ≡ n → HeldAt m p n
  was_held w = ((λ z. let v : (thread m p).who ≡ nobody = ap (λ (t : Thread). t.who) (((sound m C).fits p).clean z) in omega arith), w)

  was_barred : barred m n ≡ true
  was_barred =
      by_test (barred m n)
      (λ t. t)
      (λ t.
      let free = not_barred m (sound m C) n t in
      let h = H.1 in
      absurd (⊎_elim
      (λ v. (free p).1 (was_held (v.1 ∙ h)))
      (λ v. ⊎_elim (λ y. omega arith) (λ a. (free a.1.0).0 (a.1.1, a.1.2 ∙ h)) v)
      (answerer e m C p)))

  module _ (r : ℕ) where
    -- an event gives nobody a number but that of a new thread
    acted : (e : Event) → Done e m → NumberAt (act e m) r n → NumberAt m r n ⊎ (next_number m ≡ n)
    acted Create D h = ⊎_elim (λ v. inl v) (λ v. inr v.1) (swapped_number m (act Create m) r n _ _ D h)
    acted (Send d w) D h = inl (kept_number m (act (Send d w) m) r n D.kept h)
    acted (Receive x) D h = inl (kept_number m (act (Receive x) m) r n D.kept h)
    acted (Reply t w) D h = inl (kept_number m (act (Reply t w) m) r n D.kept h)
    acted (End t) D h = let v = D.without.stay r h.0 in inl (v.0, sym v.1.number ∙ h.1)
    acted WaitClock D h = inl (kept_number m (act WaitClock m) r n D.kept h)
    acted SliceEnd D h = inl (kept_number m (act SliceEnd m) r n D.kept h)
    acted Tick D h = inl (kept_number m (act Tick m) r n D.kept h)
    acted (WaitDevice i) D h = inl (kept_number m (act (WaitDevice i) m) r n D.kept h)
    acted (Interrupt s w) D h = inl (kept_number m (act (Interrupt s w) m) r n D.kept h)

    had_it : NumberAt (next e m) r n → NumberAt m r n
    had_it = go (eqb (refusal e m) 0) refl
      where
        go : (b : Bool) → eqb (refusal e m) 0 ≡ b → NumberAt (cond b (dispatched (act e m)) m) r n → NumberAt m r n
        go false z h = h
        go true z h =
            let D = does e m (sound m C) (kin m C) f (eqb-true _ _ z) in
            let i = kept_number (act e m) (dispatched (act e m)) r n (dispatch_kept (act e m) (acts_sound e m D)) h in
            ⊎_elim (λ v. v) (λ v. never was_barred (rw v at (given_clear m (sound m C)).1)) (acted e D i)

-- Whoever has n at the end of it has had it from its beginning on, in the same place. (No event both ends a thread and creates one, so this is the same
-- thread.)
pub unheld : (es : List Event) (m : Model) → Consistent m → AllFit es → (p n : ℕ) → n ≤ last_number → HeldOn p n es m
    → (r : ℕ) → NumberAt (after es m) r n → (i : ℕ) → NumberAt (after (take i es) m) r n
unheld [] m C f p n low H r h zero = h
unheld [] m C f p n low H r h (suc i) = h
unheld (e ∷ es) m C f p n low H r h zero = had_it e m C f.0 p n low H.0 r (unheld es (next e m) (keeps e m C f.0) f.1 p n low H.1 r h zero)
unheld (e ∷ es) m C f p n low H r h (suc i) = unheld es (next e m) (keeps e m C f.0) f.1 p n low H.1 r h i

-- Where the answer came with the first event of it, n was the number of the one that answered, and nobody else ever has it while the answer stands.
pub unheld_since : (e : Event) (es : List Event) (m : Model) → Consistent m → AllFit (e ∷ es) → (p n : ℕ) → n ≤ last_number → HeldOn p n (e ∷ es) m
    → HeldAt m p n ⊎ (Answering e m n × ((q : ℕ) × NumberAt m q n × ((r : ℕ) → NumberAt (after (e ∷ es) m) r n → r ≡ q)))
unheld_since e es m C f p n low H =
    let h = H.0.1 in
    ⊎_elim
    (λ v. inl (was_held e m C f.0 p n low H.0 (v.1 ∙ h)))
    (λ v. ⊎_elim
    (λ y. absurd (omega arith))
    (λ a. inr (subst (Answering e m) h a.0, only_one a.1.0 (a.1.1, a.1.2 ∙ h)))
    v)
    (answerer e m C p)
  where
    only_one : (q : ℕ) → NumberAt m q n → (q : ℕ) × NumberAt m q n × ((r : ℕ) → NumberAt (after (e ∷ es) m) r n → r ≡ q)
    only_one q a = (q, a, λ r k. let w = unheld (e ∷ es) m C f p n low H r k zero in (sound m C).differ r q w.0 (w.1 ∙ sym a.1))
