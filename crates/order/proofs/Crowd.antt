-- As many creates pass as there are places, and the next one is refused with 6 (document 02, P6: code 6 at the sixty-fifth create). No create is computed
-- here: it holds for any number of places that leaves a number to give.
use Rattle.std.specs.Prelude.{ℕ, zero, suc, ◌+◌, ◌≤◌, ◌<◌, ◌≡◌, refl, true, false, not, eqb, replicate}
use Rattle.std.proofs.Common.{ap, ◌∙◌, arith, eq-eqb, ne_eqb}
use Rattle.lists.specs.Lists.{bit, tally}
use Rattle.lists.specs.Tables.{tally_set}
use Rattle.rules.specs.Values.{nobody}
use Rattle.rules.specs.Model.{places, Empty, Thread, Model, lives_at, live}
use Rattle.rules.specs.Rules.{empty_place, fresh, dispatched, act, refusal, next, given, after}
use Rattle.rules.specs.Consistent.{Consistent}
use Rattle.rules.specs.declared.Event.TheVariants.{Create}
use Rattle.order.specs.Sound.{sound, kin}
use Rattle.order.specs.Places.{empty, empty_place_lem}
use Rattle.order.specs.Dispatch.{dispatch_kept}
use Rattle.order.specs.Accepted.{accepted}
use Rattle.order.proofs.Acts.{does}
use Rattle.order.proofs.Keeps.{fresh_consistent, keeps}

-- where not every place is filled a create passes, ..
pub passes : (m : Model) → live m < places → refusal Create m ≡ 0
passes m h = rw (ne_eqb (live m) places (omega arith))

-- .. and where all are it is 6 and 255
pub full_up : (m : Model) → live m ≡ places → (refusal Create m ≡ 6) × (given Create m ≡ nobody)
full_up m h = let e = eq-eqb (live m) places h in (rw e, rw e)

-- one that passes leaves one more alive
one_more : (m : Model) → Consistent m → live m < places → live (next Create m) ≡ suc (live m)
one_more m C h =
    let z = passes m h in
    let D = does Create m (sound m C) (kin m C) (omega arith) z in
    let K = dispatch_kept (act Create m) D.sound in
    let p = empty_place m in
    let a = accepted Create m z in
    let e = tally_set places (lives_at m) (lives_at (dispatched (act Create m))) p (empty_place_lem m a) (λ r b n. K.lives r ∙ D.lives r n) in
    let was : lives_at m p ≡ false = ap not (eq-eqb _ _ (empty m a)) in
    let is : lives_at (dispatched (act Create m)) p ≡ true = K.lives p ∙ ap (λ (t : Thread). not (eqb t.standing Empty)) D.own in
    let f = ap bit was in
    let g = ap bit is in
    rw z (omega arith)

-- so k creates fill k places
crowd : (k : ℕ) (m : Model) → Consistent m → live m + k ≤ places → live (after (replicate k Create) m) ≡ live m + k
crowd zero m C h = omega arith
crowd (suc k) m C h =
    let e = one_more m C (omega arith) in
    let i = crowd k (next Create m) (keeps Create m C (omega arith)) (omega arith) in
    omega arith

nobody_yet : live fresh ≡ 0
unfolding tally
nobody_yet = refl

-- k threads live after k creates
pub crowded : (k : ℕ) → k ≤ places → live (after (replicate k Create) fresh) ≡ k
crowded k h = let z = nobody_yet in let e = crowd k fresh fresh_consistent (omega arith) in omega arith

-- so from fresh as many pass as there are places, and the next does not
pub room : (k : ℕ) → k < places → refusal Create (after (replicate k Create) fresh) ≡ 0
room k h = passes (after (replicate k Create) fresh) (let e = crowded k (omega arith) in omega arith)

pub no_room : (refusal Create (after (replicate places Create) fresh) ≡ 6) × (given Create (after (replicate places Create) fresh) ≡ nobody)
no_room = full_up (after (replicate places Create) fresh) (crowded places (omega arith))
