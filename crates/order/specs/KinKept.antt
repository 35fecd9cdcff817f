-- Events that create or end nobody keep the parents live and without a ring: they change nobody's number or parent.
use Rattle.std.specs.Prelude.{ℕ, ◌≡◌, ◌≢◌, ◌&&◌, eqb}
use Rattle.std.proofs.Common.{sym, ap, ◌∙◌}
use Rattle.lists.specs.Lists.{first_of}
use Rattle.lists.specs.Search.{first_ext_in}
use Rattle.kin.specs.Climb.{climb}
use Rattle.rules.specs.Values.{nobody}
use Rattle.rules.specs.Model.{Empty, Model, thread, all_places, lives_at}
use Rattle.rules.specs.Rules.{place_of}
use Rattle.rules.specs.Consistent.{above}
use Rattle.order.specs.Sound.{Sound, Kin}
use Rattle.order.specs.Places.{lives_at_lem, at_lives}
use Rattle.order.specs.Moves.{Kept}
use Rattle.order.specs.Above.{nobody_nowhere}

-- a number is found where it was while nobody comes or goes
pub same_place : {m k : Model} → Kept m k → (n : ℕ) → place_of k n ≡ place_of m n
same_place {m} {k} K n =
    first_ext_in (λ p. lives_at k p && eqb (thread k p).number n) (λ p. lives_at m p && eqb (thread m p).number n) all_places (λ p _. rw (K.lives p, K.numbers p))

module _ (m k : Model) (F : Kept m k) where
  above_kept : above k ≡ above m
  above_kept = λ i r. first_of (λ s. F.lives s i && eqb (F.numbers s i) (F.parents r i)) all_places

  lived : (s : ℕ) → (thread k s).standing ≢ Empty → (thread m s).standing ≢ Empty
  lived s h = lives_at_lem m s (sym (F.lives s) ∙ at_lives k s h)

  lives_on : (s : ℕ) → (thread m s).standing ≢ Empty → (thread k s).standing ≢ Empty
  lives_on s h = lives_at_lem k s (F.lives s ∙ at_lives m s h)

  pub kin_kept : Kin m → Kin k
  kin_kept K = record {
    parented = λ p h n.
        let v = K.parented p (lived p h) (λ e. n (F.parents p ∙ e)) in
        (v.0, lives_on v.0 v.1, F.numbers v.0 ∙ v.2 ∙ sym (F.parents p));
    rooted = λ p h. let v = K.rooted p (lived p h) in (v.0, ap (λ (f : ℕ → ℕ). climb f v.0 p) above_kept ∙ v.1);
  }

-- Older editions load with parent 255: then there is nothing to keep
pub kin_older : (m : Model) → Sound m → ((p : ℕ) → (thread m p).parent ≡ nobody) → Kin m
kin_older m S none-raised = record {
  parented = λ p h n. absurd (n (none-raised p));
  rooted = λ p h. (1, ap (place_of m) (none-raised p) ∙ nobody_nowhere m S);
}
