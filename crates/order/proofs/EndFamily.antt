-- What the end of a family comes to, by the rules' own end: `deep_enough`, `orphans_none`, `family_only`, and that what is consistent stays so.
use Rattle.std.specs.Prelude.{ℕ, ◌≤◌, ◌<◌, ◌≡◌, refl, ◌≢◌, ◌⊎◌, true, false}
use Rattle.std.proofs.Common.{sym, ap, ◌∙◌, inl, inr, arith}
use Rattle.lists.specs.Lists.{none}
use Rattle.lists.specs.Laws.{by_test, never}
use Rattle.kin.specs.Family.{OneByOne, all_gone, rooted_gone}
use Rattle.kin.specs.Family
use Rattle.kin.specs.Carried.{carried, chained}
use Rattle.rules.specs.Model.{places, Empty, Ready, Model, thread, all_places, lives_at, live}
use Rattle.rules.specs.Rules.{place_of, in_use, child_of, end_one, end_down, end}
use Rattle.rules.specs.Consistent.{above, ListensToLive}
use Rattle.order.specs.Sound.{Live, Sound, Kin, small}
use Rattle.order.specs.Places.{lives_at_lem, at_lives, at_empty, placed, place_only, unused, not_in_use}
use Rattle.order.specs.Moves.{Waits, waits_then}
use Rattle.order.specs.Above.{above_lives}
use Rattle.order.specs.EndOne.{one_ends, ends}
use Rattle.order.specs.Recursion.{Ended, down_step, no_ring, may_end, down_ends}
use Rattle.order.specs.EndFamily.{Of, Same, Without, Dropped}

pub dead : (m : Model) (r : ℕ) → lives_at m r ≡ false → (thread m r).standing ≡ Empty
dead m r e = at_empty m r (rw e)

pub at_dead : (m : Model) (r : ℕ) → (thread m r).standing ≡ Empty → lives_at m r ≡ false
at_dead m r e = rw e

-- the thread at r as one end leaves it, and then another
same_then : (a b c : Model) (r : ℕ) → Same a b r → Same b c r → Same a c r
same_then a b c r F G = record {
  number = G.number ∙ F.number;
  parent = G.parent ∙ F.parent;
  waits = λ e. let v = F.waits e in waits_then a b c r v (G.waits (rw v.0 e));
}

one_same : (m : Model) → Sound m → (p : ℕ) → lives_at m p ≡ true → (r : ℕ) → r ≢ p → lives_at m r ≡ true → Same m (end_one p m) r
one_same m S p h r n _ = let W = one_ends m S p h in record { number = W.numbers r n; parent = W.parents r n; waits = W.waits r n }

module _ (m : Model) (S : Sound m) (K : Kin m) (n : ℕ) (h : place_of m n ≢ none) where
  -- where the thread n stands, and the nucleus after its end
  abbrev p : ℕ
  p = place_of m n

  abbrev k : Model
  k = end n m

  alive : lives_at m p ≡ true
  alive = at_lives m p (placed m n h).0

  ended : Ended m p k
  ended = down_ends (live m) p m (may_end m S K p (placed m n h).0)

  -- with the live count as depth no family is cut off: any larger depth gives the same
  pub deep_enough : (d : ℕ) → live m ≤ d → end_down d (place_of m n) m ≡ end n m
  deep_enough d i = Family.deep_enough Sound lives_at above end_one places all_places child_of ends end_down down_step m S (no_ring m K) p alive d i

  stayed : (r : ℕ) → lives_at k r ≡ true → (lives_at m r ≡ true) × Same m k r
  stayed = carried Sound lives_at above end_one places all_places child_of ends Same (λ a r. record { number = refl; parent = refl; waits = λ e. (refl, omega arith) }) same_then one_same
      ended.turns.0 m k S ended.turns.1

  -- exactly T and those from whom parents lead to T are gone, and everyone else lives with number, place and parent as before
  pub family_only : Without m (place_of m n) (end n m)
  family_only = record {
    gone = λ r l w. dead k r (all_gone Sound lives_at above end_one places all_places child_of ends m S p alive k ended r w.0 (at_lives m r l) w.1);
    only = λ r l e. ended.only r (at_lives m r l) (at_dead k r e);
    stay = λ r l. let w = stayed r (at_lives k r l) in (lives_at_lem m r w.0, w.1);
  }

  -- afterwards no live thread's parent is one that ended
  pub orphans_none : (r q : ℕ) → (thread (end n m) r).standing ≢ Empty → (thread m q).standing ≢ Empty → (thread (end n m) q).standing ≡ Empty
      → (thread (end n m) r).parent ≢ (thread m q).number
  orphans_none r q l v e z =
      let g = at_lives k r l in
      let i : q < places = small m S q v in
      let a : above m r ≡ q = ap (place_of m) (sym (family_only.stay r l).1.parent ∙ z) ∙ place_only m S q v in
      let b : above k r ≡ q = ended.less.aboves r g ∙ a in
      let c : lives_at k (above k r) ≡ true = above_lives k r (omega arith) in
      never c (ap (lives_at k) b ∙ at_dead k q e)

  -- the end of a family is Sound, as the end of each one is
  pub sound_after : Sound (end n m)
  sound_after = ended.less.good

  -- and the parents of those who stay are live, and form no ring
  pub kin_after : Kin (end n m)
  kin_after = record {
    parented = λ r l z.
        let s = family_only.stay r l in
        let v = K.parented r s.0 (λ y. z (s.1.parent ∙ y)) in
        let w : place_of m (thread m r).parent ≢ none = λ y. unused m S (thread m r).parent y v.0 v.1 v.2 in
        placed_live r (λ y. w (sym (ended.less.aboves r (at_lives k r l)) ∙ y));
    rooted = λ r l. rooted_gone Sound lives_at above end_one places all_places child_of ends m S (no_ring m K) p k ended r (at_lives k r l);
  }
    where
      placed_live : (r : ℕ) → above k r ≢ none → Live k (thread k r).parent
      placed_live r y = let v = placed k (thread k r).parent y in (above k r, v.0, v.1)

  -- nobody listens to the dead afterwards who did not before
  pub listens_after : ListensToLive m → ListensToLive (end n m)
  listens_after = (chained Sound lives_at above end_one places all_places child_of ends (λ a b. ListensToLive a → ListensToLive b) (λ a _ L. L)
      (λ a b c _ _ _ F G L. G (F L)) (λ a T q l. (one_ends a T q l).listens) ended.turns.0 m k S ended.turns.1).1

  -- a ready thread goes on waiting for its turn, no further back, or was of the family and is gone
  pub waits_or_gone : (r : ℕ) → (thread m r).standing ≡ Ready → Waits m (end n m) r ⊎ (Of m (place_of m n) r × ((thread (end n m) r).standing ≡ Empty))
  waits_or_gone r e =
      let l : (thread m r).standing ≢ Empty = omega arith in
      by_test (lives_at k r)
      (λ t. inl ((stayed r t).1.waits e))
      (λ t. inr (family_only.only r l (dead k r t), dead k r t))

  -- nobody has the number of one that is gone
  pub number_gone : (r : ℕ) → (thread m r).standing ≢ Empty → (thread (end n m) r).standing ≡ Empty → in_use (end n m) (thread m r).number ≡ false
  number_gone r l e = not_in_use k (thread m r).number (λ s g z.
      let w = family_only.stay s g in
      let q : s ≡ r = S.differ s r w.0 (sym w.1.number ∙ z) in
      g (rw q e))

  pub family_ends : Dropped m (place_of m n) (end n m)
  family_ends = record { sound = sound_after; kin = kin_after; listens = listens_after; without = family_only; waits = waits_or_gone; number = number_gone; turns = ended.turns }
