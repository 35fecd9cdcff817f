-- The rule at any depth, for the function that goes down in code: what it may ask of its caller (`MayEnd`), what its own calls meet, and what it answers.
use Rattle.std.specs.Prelude.{ℕ, suc, ◌≡◌, refl, ◌≢◌, true}
use Rattle.kin.specs.Turns.{in_turn, asked}
use Rattle.kin.specs.Family.{Able, Gone, Rooted}
use Rattle.kin.specs.Family
use Rattle.rules.specs.Model.{places, Empty, Model, thread, all_places, lives_at, live}
use Rattle.rules.specs.Rules.{child_of, children, end_one, end_down}
use Rattle.rules.specs.Consistent.{above}
use Rattle.order.specs.Sound.{Sound, Kin}
use Rattle.order.specs.Places.{lives_at_lem, at_lives}
use Rattle.order.specs.EndOne.{places_once, child_above, ends}

-- the thread at p can be ended with its family, with d the depth left: the nucleus is Sound, p lives, there is no ring, and no chain of children is longer
abbrev pub MayEnd : ℕ → ℕ → Model → Type 0
MayEnd d p m = Able Sound lives_at above end_one d p m

-- k is m without the family of p
abbrev pub Ended : Model → ℕ → Model → Type 0
Ended m p k = Gone Sound lives_at above end_one m p k

abbrev pub NoRing : Model → Type 0
NoRing m = Rooted Sound lives_at above end_one m

-- the rule, as the laws of a family read it
pub down_step : (d q : ℕ) (k : Model) → end_down (suc d) q k ≡ end_one q (in_turn (end_down d) (children k q) k)
unfolding end_down
down_step d q k = refl

pub no_ring : (m : Model) → Kin m → NoRing m
no_ring m K r g = K.rooted r (lives_at_lem m r g)

-- at first the depth is the live count
pub may_end : (m : Model) → Sound m → Kin m → (p : ℕ) → (thread m p).standing ≢ Empty → MayEnd (live m) p m
may_end m S K p h = Family.able Sound lives_at above end_one places all_places child_of ends m S (no_ring m K) p (at_lives m p h)

-- there is always depth left
pub some_depth : (p : ℕ) (m : Model) → MayEnd 0 p m → ⊥
some_depth = Family.able_none Sound lives_at above end_one places all_places child_of ends

-- a child can be ended with one less, and once it is the parent still can
pub may_child : (d p q : ℕ) (m : Model) → MayEnd (suc d) p m → child_of m p q ≡ true → MayEnd d q m
may_child d p q m A c = let v = child_above m A.good p q A.here c in Family.able_child Sound lives_at above end_one places all_places child_of ends d p q m A v.0 v.1

pub down_ends : (d p : ℕ) (m : Model) → MayEnd d p m → Ended m p (end_down d p m)
down_ends = Family.ends Sound lives_at above end_one places all_places child_of ends end_down down_step

pub may_after : (d p q : ℕ) (m : Model) → MayEnd (suc d) p m → child_of m p q ≡ true → MayEnd (suc d) p (end_down d q m)
may_after d p q m A c =
    let v = child_above m A.good p q A.here c in
    Family.able_after Sound lives_at above end_one places all_places child_of ends (suc d) p q m A v.1 (end_down d q m) (down_ends d q m (may_child d p q m A c))

-- place by place, asking of each whether it is a child now, is the same as through the children there were at first
pub children_asked : (d p : ℕ) (m : Model) → MayEnd (suc d) p m → asked (λ k r. child_of k p r) (end_down d) all_places m ≡ in_turn (end_down d) (children m p) m
children_asked d p m A = Family.as_it_goes Sound lives_at above end_one places all_places child_of ends end_down down_step d p all_places m A places_once
