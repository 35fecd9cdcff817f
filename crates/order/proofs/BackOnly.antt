-- Nothing ever enters ready except at the back: after any event, and after an update, ready is what stays of it, in its order, and behind that those who join.
use Rattle.std.specs.Prelude.{◌≡◌, refl, Bool, true, false, cond, eqb}
use Rattle.std.proofs.Common.{arith, eqb-true}
use Rattle.rules.specs.Model.{Model, ready, line, all_places}
use Rattle.rules.specs.Rules.{place_of, dispatched, act, refusal, next, deserted, updated}
use Rattle.rules.specs.Consistent.{Fits, OldConsistent, Consistent}
use Rattle.rules.specs.declared.Event.{Event}
use Rattle.rules.specs.declared.Event.TheVariants.{Create, Send, Receive, Reply, End, WaitClock, SliceEnd, Tick, WaitDevice, Interrupt}
use Rattle.order.specs.Sound.{Sound, old_sound, sound, kin}
use Rattle.order.specs.Places.{elsewhere}
use Rattle.order.specs.Moves.{still}
use Rattle.order.specs.HandBack.{lets}
use Rattle.order.specs.Update.{deserted_fair}
use Rattle.order.specs.Accepted.{Accepted, accepted}
use Rattle.order.specs.Grown.{Grown}
use Rattle.order.proofs.Grown.{grows, steps, grew_dispatched}
use Rattle.order.proofs.FamilyBack.{family_back}
use Rattle.order.specs.Acts.{Done}
use Rattle.order.proofs.Acts.{does, acts_sound}

-- ---- every event
acted : (e : Event) (m : Model) → Sound m → Accepted e m → Done e m → Grown (line m ready) (line (act e m) ready)
acted Create m S A D = grows m _ S D.sound (λ s e. D.waits s (elsewhere m A s (omega arith)) e)
acted (Send d w) m S A D = steps m _ S D
acted (Receive n) m S A D = steps m _ S D
acted (Reply t w) m S A D = steps m _ S D
acted (End t) m S A D = family_back m _ (place_of m t.0) S D
acted WaitClock m S A D = steps m _ S D
acted SliceEnd m S A D = steps m _ S D
acted Tick m S A D = steps m _ S D
acted (WaitDevice i) m S A D = steps m _ S D
acted (Interrupt s w) m S A D = steps m _ S D

-- ---- the theorem
pub back_only : (e : Event) (m : Model) → Consistent m → Fits e → Grown (line m ready) (line (next e m) ready)
back_only e m C f = go (eqb (refusal e m) 0) refl
  where
    S : Sound m
    S = sound m C

    go : (b : Bool) → eqb (refusal e m) 0 ≡ b → Grown (line m ready) (line (cond b (dispatched (act e m)) m) ready)
    go true z =
        let r = eqb-true _ _ z in
        let D = does e m S (kin m C) f r in
        grew_dispatched (line m ready) (act e m) (acts_sound e m D) (acted e m S (accepted e m r) D)
    go false z = steps m m S (still m S)

-- an update wakes behind those who are ready, too
pub update_back_only : (m : Model) → OldConsistent m → Grown (line m ready) (line (updated m) ready)
update_back_only m C =
    let S = old_sound m C in
    let F = (lets all_places m S (deserted m) (deserted_fair m)).step in
    grew_dispatched (line m ready) _ F.kept.sound (steps m _ S F)
