-- Who lives after an accepted event: whoever lived before, but create fills the lowest empty place and end empties those of a family.
use Rattle.std.specs.Prelude.{ℕ, ◌≡◌, ◌≢◌, false, cond, not, eqb}
use Rattle.std.proofs.Common.{◌∙◌, arith, eq-eqb, ne_eqb}
use Rattle.std.proofs.Math.Decide.{ℕ_discrete}
use Rattle.lists.specs.Laws.{by_test, never}
use Rattle.kin.specs.Climb.{leads, leads_yes, leads_in}
use Rattle.rules.specs.Model.{Empty, Thread, Model, thread, lives_at, live}
use Rattle.rules.specs.Rules.{place_of, dispatched, act, refusal}
use Rattle.rules.specs.Consistent.{above, Fits, Consistent}
use Rattle.rules.specs.declared.Event.{Event}
use Rattle.rules.specs.declared.Event.TheVariants.{Create, Send, Receive, Reply, End, WaitClock, SliceEnd, Tick, WaitDevice, Interrupt}
use Rattle.order.specs.Sound.{Sound, Kin, sound, kin}
use Rattle.order.specs.Places.{lives_at_lem, at_lives, placed}
use Rattle.order.specs.Recursion.{may_end}
use Rattle.order.specs.EndFamily.{Without}
use Rattle.order.proofs.EndFamily.{dead, at_dead}
use Rattle.order.specs.Accepted.{Accepted, accepted}
use Rattle.order.specs.Fill.{Swap}
use Rattle.order.specs.Dispatch.{dispatch_kept}
use Rattle.order.specs.Acts.{Done}
use Rattle.order.proofs.Acts.{does, acts_sound}
use Rattle.order.specs.Lives.{lives_now}

swapped : (m : Model) (r : ℕ) (t : Thread) (k : Model) → Swap m r t k → (p : ℕ) → lives_at k p ≡ cond (eqb p r) (not (eqb t.standing Empty)) (lives_at m p)
swapped m r t k W p = elim (ℕ_discrete p r) [
  | yes e ↦ rw (eq-eqb p r e, e, W.own)
  | no n ↦ rw (ne_eqb p r n) (W.lives p n)
]

-- who is of a family is gone, and nobody else
dropped : (m : Model) → Sound m → Kin m → (p : ℕ) (k : Model) → (thread m p).standing ≢ Empty → Without m p k → (r : ℕ) → lives_at k r ≡ cond (leads (above m) (live m) r p) false (lives_at m r)
dropped m S K p k l W r =
    let fewer : lives_at m r ≡ false → lives_at k r ≡ false = λ e. by_test (lives_at k r) (λ t. never (at_lives m r (W.stay r (lives_at_lem k r t)).0) e) (λ t. t) in
    by_test (lives_at m r)
    (λ e. by_test (leads (above m) (live m) r p)
    (λ t. rw t (at_dead k r (W.gone r (lives_at_lem m r e) (leads_yes (above m) (live m) r p t))))
    (λ t. rw (t, e) (by_test (lives_at k r) (λ u. u) (λ u.
    let w = W.only r (lives_at_lem m r e) (dead k r u) in
    let i = (may_end m S K p l).deep r w.0 e w.1 in
    never (leads_in (above m) (live m) r p w.0 (omega arith) w.1) t))))
    (λ e. by_test (leads (above m) (live m) r p) (λ t. rw t (fewer e)) (λ t. rw (t, e) (fewer e)))

pub act_lives : (e : Event) (m : Model) → Sound m → Kin m → Accepted e m → Done e m → (p : ℕ) → lives_at (act e m) p ≡ lives_now e m p
act_lives Create m S K a D p = swapped m _ _ (act Create m) D p
act_lives (Send d w) m S K a D p = D.kept.lives p
act_lives (Receive n) m S K a D p = D.kept.lives p
act_lives (Reply t w) m S K a D p = D.kept.lives p
act_lives (End t) m S K a D p = dropped m S K (place_of m t.0) (act (End t) m) (placed m t.0 a).0 D.without p
act_lives WaitClock m S K a D p = D.kept.lives p
act_lives SliceEnd m S K a D p = D.kept.lives p
act_lives Tick m S K a D p = D.kept.lives p
act_lives (WaitDevice i) m S K a D p = D.kept.lives p
act_lives (Interrupt s w) m S K a D p = D.kept.lives p

pub lives : (e : Event) (m : Model) → Consistent m → Fits e → refusal e m ≡ 0 → (p : ℕ) → lives_at (dispatched (act e m)) p ≡ lives_now e m p
lives e m C f z p =
    let D = does e m (sound m C) (kin m C) f z in
    (dispatch_kept (act e m) (acts_sound e m D)).lives p ∙ act_lives e m (sound m C) (kin m C) (accepted e m z) D p
