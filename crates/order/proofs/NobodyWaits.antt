-- After an end nobody waits for one that ended, alone or with its family: nobody sends to it, awaits its reply or receives from it.
use Rattle.std.specs.Prelude.{ℕ, ◌≤◌, ◌≡◌, refl, ◌≢◌}
use Rattle.std.proofs.Common.{sym, subst, ◌∙◌, arith, eqb-true}
use Rattle.std.proofs.Math.Decide.{dec_lt}
use Rattle.std.proofs.lemmas.Bool.{not-false}
use Rattle.lists.specs.Lists.{none}
use Rattle.rules.specs.Values.{nobody}
use Rattle.rules.specs.Model.{last_number, Empty, Receiving, Model, thread}
use Rattle.rules.specs.Rules.{place_of, dispatched, act, refusal, next}
use Rattle.rules.specs.Consistent.{Fits, Consistent}
use Rattle.rules.specs.declared.Number.{Number}
use Rattle.rules.specs.declared.Event.{Event}
use Rattle.rules.specs.declared.Event.TheVariants.{End}
use Rattle.order.specs.Sound.{Live, sound, kin}
use Rattle.order.specs.Places.{placed, unused}
use Rattle.order.specs.KinKept.{same_place}
use Rattle.order.specs.Dispatch.{dispatch_kept}
use Rattle.order.specs.EndFamily.{Of}
use Rattle.order.specs.Accepted.{accepted}
use Rattle.order.proofs.Acts.{does}
use Rattle.order.proofs.Keeps.{acts}
use Rattle.order.specs.NobodyWaits.{WaitsFor}

-- in a consistent nucleus it lives
waited_lives : (m : Model) → Consistent m → (n p : ℕ) → n ≢ nobody → WaitsFor m n p → Live m n
waited_lives m C n p k (i, j, e) = elim (dec_lt (thread m p).standing Receiving) [
  | yes h ↦ rw (← e) (C.old.served p i (omega arith))
  | no h ↦ rw (← e) (C.listens p (omega arith) (λ z. k (sym e ∙ z)))
]

-- what comes of an event that is accepted
accepted_next : (e : Event) (m : Model) → refusal e m ≡ 0 → next e m ≡ dispatched (act e m)
accepted_next e m z = rw z

-- q is of the family that ended
pub family_unwaited : (t : Number) (m : Model) → Consistent m → refusal (End t) m ≡ 0 → (q : ℕ) → (thread m q).standing ≢ Empty → Of m (place_of m t.0) q
    → (p : ℕ) → WaitsFor (next (End t) m) (thread m q).number p → ⊥
family_unwaited t m C z q h of p w =
    let S = sound m C in
    let f : Fits (End t) = (omega arith, omega arith, omega arith) in
    let D = does (End t) m S (kin m C) f z in
    let a = act (End t) m in
    let K = dispatch_kept a D.sound in
    let n = (thread m q).number in
    let low : n ≤ last_number = (S.fits q).number h in
    let v : WaitsFor (dispatched a) n p = subst (λ (k : Model). WaitsFor k n p) (accepted_next (End t) m z) w in
    let l = waited_lives (dispatched a) (acts (End t) m C f z) n p (omega arith) v in
    let g : place_of a n ≡ none = eqb-true _ _ (not-false _ (D.number q h (D.without.gone q h of))) in
    unused (dispatched a) K.sound n (same_place K n ∙ g) l.0 l.1 l.2

-- the one that the end names is
pub nobody_waits_lem : (t : Number) (m : Model) → Consistent m → refusal (End t) m ≡ 0 → (p : ℕ) → WaitsFor (next (End t) m) t.0 p → ⊥
nobody_waits_lem t m C z p w =
    let at = placed m t.0 (accepted (End t) m z) in
    family_unwaited t m C z (place_of m t.0) at.0 (0, refl) p (rw at.1 w)
