-- A fresh nucleus is consistent, and every event, accepted or refused, keeps a consistent nucleus consistent: so does every history.
use Rattle.std.specs.Prelude.{ℕ, ◌≡◌, refl, List, [], Bool, true, false, cond, eqb}
use Rattle.std.proofs.Common.{ap, arith, eqb-true}
use Rattle.lists.specs.Tables.{all_same}
use Rattle.rules.specs.Model.{places, line_count, Thread, vacant, Model, thread}
use Rattle.rules.specs.Rules.{fresh, dispatched, act, refusal, next}
use Rattle.rules.specs.Consistent.{Fits, Consistent}
use Rattle.rules.specs.declared.Event.{Event}
use Rattle.order.specs.Sound.{Sound, sound, kin, whole}
use Rattle.order.specs.Belongs.{in_none}
use Rattle.order.specs.Dispatch.{dispatch}
use Rattle.order.specs.End.{fit_vacant}
use Rattle.order.specs.KinKept.{kin_older}
use Rattle.order.specs.Accepted.{accepted}
use Rattle.order.proofs.Acts.{does, acts_sound, acts_kin, acts_listens}

-- ---- fresh
vacant_all : (p : ℕ) → thread fresh p ≡ vacant
vacant_all p = all_same places p vacant

fresh_sound : Sound fresh
fresh_sound = record {
  threads = refl;
  lines = refl;
  last = omega arith;
  fits = λ p. rw (vacant_all p) fit_vacant;
  differ = λ p r. rw (vacant_all p) (λ k. absurd (k refl));
  alone = λ p. rw (vacant_all p) (λ e. absurd (omega arith));
  busy = λ k. absurd (k refl);
  served = λ p. rw (vacant_all p) (λ i. absurd (omega arith));
  deaf = λ r p. rw (vacant_all p) (λ e. absurd (omega arith));
  stood = λ p q. rw (vacant_all p, all_same line_count q no_places, in_none fresh vacant (omega arith) q);
}
  where
    no_places : List ℕ
    no_places = []

pub fresh_consistent : Consistent fresh
fresh_consistent =
    whole fresh fresh_sound (λ _. refl) (kin_older fresh fresh_sound (λ p. ap (λ (t : Thread). t.parent) (vacant_all p)))
    (λ p. rw (vacant_all p) (λ five. absurd (omega arith)))

-- ---- every event

-- an accepted one
pub acts : (e : Event) (m : Model) → Consistent m → Fits e → refusal e m ≡ 0 → Consistent (dispatched (act e m))
acts e m C f z =
    let D = does e m (sound m C) (kin m C) f z in
    dispatch (act e m) (acts_sound e m D) (acts_kin e m (sound m C) (kin m C) (accepted e m z) D) (acts_listens e m D C.listens)

pub keeps : (e : Event) (m : Model) → Consistent m → Fits e → Consistent (next e m)
keeps e m C f = go (eqb (refusal e m) 0) refl
  where
    go : (b : Bool) → eqb (refusal e m) 0 ≡ b → Consistent (cond b (dispatched (act e m)) m)
    go true z = acts e m C f (eqb-true _ _ z)
    go false z = C
