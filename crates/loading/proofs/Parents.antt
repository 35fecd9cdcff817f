-- Images of edition 3 in which parents form a ring, or one is dead (document 02, P5): load gives 10, by the rules as they are and by the old ones, so that
-- the update refuses them too.
use Prim.Native.Nat.{ℕ, zero, suc, ◌<◌}
use Rattle.std.specs.Prelude.{◌≡◌, refl, ◌≢◌, Bool, get_or}
use Rattle.std.proofs.Common.{sym, ap, subst, ◌∙◌, arith}
use Rattle.kin.specs.Climb.{climb, no_return}
use Rattle.rules.specs.Values.{nobody}
use Rattle.rules.specs.Model.{Empty, Running, Ready, Thread, Model, thread, live}
use Rattle.rules.specs.Rules.{place_of}
use Rattle.rules.specs.Consistent.{above, OldConsistent}
use Rattle.order.specs.Sound.{Sound, old_sound, old_of, small}
use Rattle.order.specs.Places.{at_lives, place_only}
use Rattle.order.specs.Above.{above_none}
use Rattle.saving.specs.Format.{queues_of, parents_of, row_of}
use Rattle.saving.specs.declared.format.Row.{Row}
use Rattle.loading.specs.Loads.{head_code, ImageAsBy, ImageBy, ForeignBy, LoadsBy}
use Rattle.loading.specs.Finds.{live_is, row_is}
use Rattle.loading.specs.Entry.{entry_at, entry_thread}
use Rattle.loading.proofs.Injective.{entry_of}
use Rattle.loading.proofs.Accepts.{refuses}
use Rattle.loading.specs.Counted.{related}
use Rattle.loading.specs.declared.Loaded.{Loaded}

-- a new thread with this number, standing and parent
abbrev started : ℕ → ℕ → ℕ → Thread
started n st pa = record { number = n; standing = st; partner = nobody; word = 0; code = 0; who = nobody; answer = 0; parent = pa }

-- a model that has such an image: 0 runs with the parent f, and 1 is ready with the parent g
module _ {strict : Bool} {f g : ℕ} {m : Model} (J : ImageBy strict m (related 3 f g)) where
  image : ImageAsBy strict (row_of 3) m (related 3 f g)
  image = subst (λ (row : Row). ImageAsBy strict row m (related 3 f g)) (row_is J.1) J.1

  two : live m ≡ 2
  two = sym (live_is image)

  first : thread m 0 ≡ started 0 Running f
  unfolding queues_of parents_of
  first = entry_thread image {i = 0} (let e = two in omega arith)

  second : thread m 1 ≡ started 1 Ready g
  unfolding queues_of parents_of
  second = entry_thread image {i = 1} (let e = two in omega arith)

  C : OldConsistent m
  C = old_of strict image.consistent

  S : Sound m
  S = old_sound m C

  first_lives : (thread m 0).standing ≢ Empty
  first_lives = rw first (omega arith)

  second_lives : (thread m 1).standing ≢ Empty
  second_lives = rw second (omega arith)

  -- the places above them, where these are their parents
  above_first : f ≡ 1 → above m 0 ≡ 1
  above_first e = ap (place_of m) (rw (first, second) e) ∙ place_only m S 1 second_lives

  above_second : (p : ℕ) → (thread m p).standing ≢ Empty → (thread m p).number ≡ g → above m 1 ≡ p
  above_second p h e = ap (place_of m) (rw second (sym e)) ∙ place_only m S p h

  -- nobody else lives
  named : (r i : ℕ) → i < 2 → get_or (related 3 f g) (entry_at (row_of 3) i) 0 ≡ r → (thread m r).number < 2
  unfolding queues_of parents_of
  named r zero h e = let z : 0 ≡ r = e in rw (← z, first) (omega arith)
  named r (suc zero) h e = let z : 1 ≡ r = e in rw (← z, second) (omega arith)
  named r (suc (suc i)) h e = absurd (omega arith)

  numbered : (r : ℕ) → (thread m r).standing ≢ Empty → (thread m r).number < 2
  numbered r h =
      let w = entry_of image r (small m S r h) (at_lives m r h) in
      let e = two in
      named r w.0 (omega (arith, w.1)) w.2

-- ---- no consistent state has them
ring_foreign : {strict : Bool} → ForeignBy strict (related 3 1 0)
ring_foreign m J =
    let w = (C J).rooted 0 (first_lives J) in
    let e : climb (above m) 2 0 ≡ 0 = ap (above m) (above_first J refl) ∙ above_second J 0 (first_lives J) (ap (λ (t : Thread). t.number) (first J)) in
    no_return (above m) (above_none m (S J)) w.0 1 0 (omega arith) w.1 e

own_foreign : {strict : Bool} → ForeignBy strict (related 3 255 1)
own_foreign m J =
    let w = (C J).rooted 1 (second_lives J) in
    let e : climb (above m) 1 1 ≡ 1 = above_second J 1 (second_lives J) (ap (λ (t : Thread). t.number) (second J)) in
    no_return (above m) (above_none m (S J)) w.0 0 1 (omega arith) w.1 e

dead_foreign : {strict : Bool} → ForeignBy strict (related 3 255 7)
dead_foreign m J =
    let e : (thread m 1).parent ≡ 7 = ap (λ (t : Thread). t.parent) (second J) in
    let v = (C J).parented 1 (second_lives J) (omega arith) in
    let n = numbered J v.0 v.1 in
    let z = v.2 in
    omega arith

-- ---- so they get 10

-- their heads are in order
related_head : (f g : ℕ) → head_code (related 3 f g) ≡ 0
unfolding queues_of parents_of
related_head f g = refl

-- 0 and 1 are each other's parents; 1 is its own; the parent of 1 is 7, whom nobody is
pub counted_parents : {strict : Bool} (r : Loaded) → (LoadsBy strict (related 3 1 0) r → r.code ≡ 10) × (LoadsBy strict (related 3 255 1) r → r.code ≡ 10) × (LoadsBy strict (related 3 255 7) r → r.code ≡ 10)
counted_parents r = (
  (λ L. (refuses L).1 (related_head 1 0) ring_foreign),
  (λ L. (refuses L).1 (related_head 255 1) own_foreign),
  (λ L. (refuses L).1 (related_head 255 7) dead_foreign),
)
