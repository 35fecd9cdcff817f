-- Create keeps the parents live and without a ring: the newcomer's parent is the thread that runs, and the newcomer is nobody's parent.
use Rattle.std.specs.Prelude.{ℕ, suc, ◌≤◌, ◌<◌, ◌≡◌, refl, ◌≢◌, Bool, true, false, cond, ◌&&◌, eqb}
use Rattle.std.proofs.Common.{sym, ap, ◌∙◌, arith, ne_eqb}
use Rattle.std.proofs.Math.Decide.{ℕ_discrete}
use Rattle.std.proofs.lemmas.Bool.{eqb-false}
use Rattle.lists.specs.Lists.{none}
use Rattle.kin.specs.Climb.{climb, climb_same}
use Rattle.rules.specs.Values.{nobody}
use Rattle.rules.specs.Model.{places, last_number, Empty, Thread, Model, thread, lives_at}
use Rattle.rules.specs.Rules.{place_of, idle, mine, next_number, newcomer, creator, empty_place, create}
use Rattle.rules.specs.Consistent.{above}
use Rattle.order.specs.Sound.{Live, Sound, Kin}
use Rattle.order.specs.Places.{lives_at_lem, at_lives, placed, place_only, unused, empty, empty_place_lem}
use Rattle.order.specs.Fill.{Swap}
use Rattle.order.specs.Above.{found_same, nobody_nowhere, above_none, above_lives}
use Rattle.order.specs.Caller.{alive}
use Rattle.order.proofs.Create.{given_free, creates}

-- the empty place p takes a newcomer with the unused number n
module _ (m k : Model) (S : Sound m) (K : Kin m) (p n : ℕ) (place : p < places) (vacated : (thread m p).standing ≡ Empty) (low : n ≤ last_number) (free : place_of m n ≡ none)
    (W : Swap m p (newcomer n (creator m)) k) where
  other : (s : ℕ) → (thread m s).standing ≢ Empty → s ≢ p
  other s h z = h (rw z vacated)

  lives_on : (s : ℕ) → (thread m s).standing ≢ Empty → (thread k s).standing ≢ Empty
  lives_on s h = lives_at_lem k s (W.lives s (other s h) ∙ at_lives m s h)

  lived : (s : ℕ) → s ≢ p → (thread k s).standing ≢ Empty → (thread m s).standing ≢ Empty
  lived s z h = lives_at_lem m s (sym (W.lives s z) ∙ at_lives k s h)

  numbered : (thread k p).number ≡ n
  numbered = ap (λ (t : Thread). t.number) W.own

  -- nobody's parent has the new number
  strange : (s : ℕ) → (thread m s).standing ≢ Empty → n ≢ (thread m s).parent
  strange s h e = elim (ℕ_discrete (thread m s).parent nobody) [
    | yes z ↦ omega arith
    | no z ↦ let v = K.parented s h z in unused m S n free v.0 v.1 (v.2 ∙ sym e)
  ]

  above_as : (s : ℕ) → lives_at m s ≡ true → above k s ≡ above m s
  above_as s g =
      let h = lives_at_lem m s g in
      let off : lives_at k p && eqb (thread k p).number (thread m s).parent ≡ false = rw (W.own, ne_eqb n (thread m s).parent (strange s h)) in
      ap (place_of k) (W.parents s (other s h))
      ∙ found_same m k p (thread m s).parent W.lives W.numbers off
      (λ z. let v = (placed m (thread m s).parent (omega arith)).0 in v (rw z vacated))

  climb_as : (j s : ℕ) → lives_at m s ≡ true → climb (above k) j s ≡ climb (above m) j s
  climb_as = climb_same (above m) (above_none m S) (above k) (lives_at m) (above_none k W.sound) above_as (λ r _. above_lives m r)

  -- the newcomer's parent lives, and leads up to nobody ..
  abbrev Started : Type 0
  Started = ((thread k p).parent ≢ nobody → Live k (thread k p).parent) × ((j : ℕ) × (climb (above k) j p ≡ none))

  raised : (thread k p).parent ≡ creator m
  raised = ap (λ (t : Thread). t.parent) W.own

  -- .. with nobody running, and with somebody
  started : (b : Bool) → idle m ≡ b → (thread k p).parent ≡ cond b nobody (mine m) → Started
  started true e f = ((λ z. absurd (z f)), (1, ap (place_of k) f ∙ nobody_nowhere k W.sound))
  started false e f =
      let l = alive m S (eqb-false _ _ e) in
      let r = m.running in
      let u : (thread k r).number ≡ mine m = W.numbers r (other r l) in
      let a : above k p ≡ r = ap (place_of k) (f ∙ sym u) ∙ place_only k W.sound r (lives_on r l) in
      let v = K.rooted r l in
      ((λ _. (r, lives_on r l, u ∙ sym f)), (suc v.0, ap (climb (above k) v.0) a ∙ climb_as v.0 r (at_lives m r l) ∙ v.1))

  pub kin_filled : Kin k
  kin_filled =
      let w = started (idle m) refl raised in
      record {
        parented = λ s. elim (ℕ_discrete s p) [
          | yes z ↦ rw z (λ _. w.0)
          | no z ↦ λ h i.
              let v = K.parented s (lived s z h) (λ y. i (W.parents s z ∙ y)) in
              (v.0, lives_on v.0 v.1, W.numbers v.0 (other v.0 v.1) ∙ v.2 ∙ sym (W.parents s z))
        ];
        rooted = λ s. elim (ℕ_discrete s p) [
          | yes z ↦ rw z (λ _. w.1)
          | no z ↦ λ h. let l = lived s z h in let v = K.rooted s l in (v.0, climb_as v.0 s (at_lives m s l) ∙ v.1)
        ];
      }

pub kin_create : (m : Model) → Sound m → Kin m → empty_place m ≢ none → Kin (create m)
kin_create m S K h = let f = given_free m S in kin_filled m (create m) S K (empty_place m) (next_number m) (empty_place_lem m h) (empty m h) f.0 f.1 (creates m S h)
