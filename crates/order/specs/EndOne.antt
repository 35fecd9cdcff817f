-- The rules' own end of one thread meets the laws that families ask for.
use Rattle.std.specs.Prelude.{ℕ, ◌<◌, ◌≡◌, refl, ◌≢◌, true, false, not, ◌&&◌, eqb}
use Rattle.std.proofs.Common.{sym, ap, ◌∙◌, arith, eqb-true, eq-eqb}
use Rattle.lists.specs.Lists.{none, Distinct}
use Rattle.lists.specs.Laws.{and_left, and_right, and_both}
use Rattle.lists.specs.Counts.{some_among}
use Rattle.lists.specs.Search.{up_from_distinct}
use Rattle.kin.specs.Family.{EndLaws}
use Rattle.rules.specs.Model.{places, Empty, Thread, vacant, Model, thread, lives_at, all_places}
use Rattle.rules.specs.Rules.{place_of, child_of, end_one}
use Rattle.rules.specs.Consistent.{above}
use Rattle.order.specs.Sound.{Sound, small}
use Rattle.order.specs.Places.{every_place, lives_at_lem, placed, place_only}
use Rattle.order.specs.Fill.{Swap}
use Rattle.order.specs.Above.{found_same, above_none, above_lives}
use Rattle.order.specs.End.{ends_last}
use Rattle.order.specs.Order.{written_at}

-- ---- one thread ends
pub one_ends : (m : Model) → Sound m → (p : ℕ) → lives_at m p ≡ true → Swap m p vacant (end_one p m)
one_ends m S p h = let l = lives_at_lem m p h in rw (written_at m S p (thread m p).number l refl) (ends_last m S p (thread m p).number l refl)

pub aboves : (m : Model) → Sound m → (p : ℕ) → lives_at m p ≡ true → (r : ℕ) → r ≢ p → lives_at m r ≡ true → above m r ≢ p → above (end_one p m) r ≡ above m r
aboves m S p h r n _ k =
    let W = one_ends m S p h in
    let off : lives_at (end_one p m) p && eqb (thread (end_one p m) p).number (thread m r).parent ≡ false =
    ap (λ (t : Thread). not (eqb t.standing Empty) && eqb t.number (thread m r).parent) W.own in
    ap (place_of (end_one p m)) (W.parents r n) ∙ found_same m (end_one p m) p (thread m r).parent W.lives W.numbers off k

-- ---- its children
module _ (m : Model) (S : Sound m) (p r : ℕ) (h : lives_at m p ≡ true) where
  pub child_above : child_of m p r ≡ true → (lives_at m r ≡ true) × (above m r ≡ p)
  child_above e = (
    and_left (lives_at m r) (eqb (thread m r).parent (thread m p).number) e,
    ap (place_of m) (eqb-true _ _ (and_right (lives_at m r) (eqb (thread m r).parent (thread m p).number) e)) ∙ place_only m S p (lives_at_lem m p h),
  )

  above_child : lives_at m r ≡ true → above m r ≡ p → child_of m p r ≡ true
  above_child g e =
      let i : p < places = small m S p (lives_at_lem m p h) in
      let v = (placed m (thread m r).parent (λ z. let y : p ≡ none = sym e ∙ z in omega arith)).1 in
      let w : (thread m p).number ≡ (thread m r).parent = ap (λ (q : ℕ). (thread m q).number) (sym e) ∙ v in
      and_both (lives_at m r) (eqb (thread m r).parent (thread m p).number) g (eq-eqb (thread m r).parent (thread m p).number (sym w))

-- ---- the places
pub places_once : Distinct all_places
unfolding all_places
places_once = up_from_distinct places 0

-- ---- all of the laws
pub ends : EndLaws Sound lives_at above end_one places all_places child_of
ends = record {
  small = λ m S r h. small m S r (lives_at_lem m r h);
  listed = λ r h. some_among r all_places (every_place r h);
  once = places_once;
  nowhere = omega arith;
  top = above_none;
  up = λ m S. above_lives m;
  kid = child_above;
  kid_in = above_child;
  good = λ m S p h. (one_ends m S p h).sound;
  out = λ m S p h. ap (λ (t : Thread). not (eqb t.standing Empty)) (one_ends m S p h).own;
  others = λ m S p h. (one_ends m S p h).lives;
  aboves = aboves;
}
