-- The place above a place, in a Sound nucleus, and what leaves it as it was.
use Rattle.std.specs.Prelude.{ℕ, ◌≤◌, ◌≡◌, refl, ◌≢◌, List, [], ◌∷◌, Bool, true, false, ◌&&◌, eqb}
use Rattle.std.proofs.Common.{ap, ◌∙◌, arith, eqb-true}
use Rattle.std.proofs.Math.Decide.{ℕ_discrete}
use Rattle.std.proofs.lemmas.Bool.{not-false}
use Rattle.lists.specs.Lists.{none, first_of}
use Rattle.lists.specs.Laws.{by_test}
use Rattle.rules.specs.Values.{nobody}
use Rattle.rules.specs.Model.{last_number, Thread, Model, thread, lives_at, all_places}
use Rattle.rules.specs.Rules.{place_of}
use Rattle.rules.specs.Consistent.{above}
use Rattle.order.specs.Sound.{Sound}
use Rattle.order.specs.Places.{none_empty, at_lives, placed, not_in_use}

-- ---- the first of a list that passes a test: it stays the first when p, another, no longer passes
pub first_same : (f g : ℕ → Bool) (p : ℕ) → ((s : ℕ) → s ≢ p → g s ≡ f s) → g p ≡ false → (l : List ℕ) → first_of f l ≢ p → first_of g l ≡ first_of f l
first_same f g p same off [] n = refl
first_same f g p same off (x ∷ l) n =
    let ih = first_same f g p same off l in
    by_test (f x)
    (λ t. let k : x ≢ p = λ z. n (rw t z) in rw (same x k, t))
    (λ t. let w : g x ≡ false = elim (ℕ_discrete x p) [ yes z ↦ rw z off | no z ↦ same x z ∙ t ] in rw (w, t) (ih (rw t at n)))

-- a number is found where it was, unless that is p
pub found_same : (m k : Model) (p n : ℕ) → ((s : ℕ) → s ≢ p → lives_at k s ≡ lives_at m s) → ((s : ℕ) → s ≢ p → (thread k s).number ≡ (thread m s).number)
    → lives_at k p && eqb (thread k p).number n ≡ false → place_of m n ≢ p → place_of k n ≡ place_of m n
found_same m k p n lives numbers off h =
    first_same (λ s. lives_at m s && eqb (thread m s).number n) (λ s. lives_at k s && eqb (thread k s).number n) p
    (λ s z. λ i. lives s z i && eqb (numbers s z i) n) off all_places h

-- ---- none, and who is above

pub nobody_nowhere : (m : Model) → Sound m → place_of m nobody ≡ none
nobody_nowhere m S = eqb-true _ _ (not-false _ (not_in_use m nobody (λ s h e. let i : (thread m s).number ≤ last_number = (S.fits s).number h in omega arith)))

pub above_none : (m : Model) → Sound m → above m none ≡ none
above_none m S = ap (λ (t : Thread). place_of m t.parent) ((S.fits none).clean (none_empty m S)) ∙ nobody_nowhere m S

pub above_lives : (m : Model) (r : ℕ) → above m r ≢ none → lives_at m (above m r) ≡ true
above_lives m r h = at_lives m (above m r) (placed m (thread m r).parent h).0
