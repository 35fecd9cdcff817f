-- Looking places up: the place of a live number, that of one whose answer names it, and the lowest empty one.
use Rattle.std.specs.Prelude.{ℕ, ◌≤◌, ◌<◌, ◌≡◌, refl, ◌≢◌, ◌⊎◌, true, false, ◌&&◌, not}
use Rattle.std.proofs.Common.{◌∙◌, inl, inr, arith, eqb-true, eq-eqb, ne_eqb}
use Rattle.std.proofs.Math.Decide.{ℕ_discrete, dec_lt}
use Rattle.std.proofs.Math.Dec.{eqb}
use Rattle.std.proofs.lemmas.Bool.{not-true, not-false, eqb-false}
use Rattle.lists.specs.Lists.{none, count, first_of}
use Rattle.lists.specs.Laws.{by_test, never, and_left, and_right}
use Rattle.lists.specs.Tables.{tally_full}
use Rattle.lists.specs.Search.{count_up_from, up_from_within, found_in, found_passes, found_none, found_from}
use Rattle.rules.specs.Model.{places, Empty, Thread, Model, thread, line, all_places, lives_at}
use Rattle.rules.specs.Rules.{place_of, in_use, holder_of, barred, empty_place, full}
use Rattle.order.specs.Sound.{Live, Sound, small}
use Rattle.order.specs.Belongs.{in_none}

-- ---- the places

pub every_place : (p : ℕ) → p < places → 1 ≤ count p all_places
unfolding all_places
every_place p h = count_up_from places 0 p (omega arith) (omega arith)

pub only_places : (p : ℕ) → 1 ≤ count p all_places → p < places
unfolding all_places
only_places p h = up_from_within places 0 p h

-- none is no place, and stands in no line
pub none_empty : (m : Model) → Sound m → (thread m none).standing ≡ Empty
none_empty m S = elim (ℕ_discrete (thread m none).standing Empty) [
  | yes e ↦ e
  | no n ↦ let i = small m S none n in absurd (omega arith)
]

pub none_nowhere : (m : Model) → Sound m → (q : ℕ) → count none (line m q) ≡ 0
none_nowhere m S q =
    let e = none_empty m S in
    S.stood none q ∙ rw (in_none m (thread m none) (omega arith) q)

-- ---- it lives there, or it is empty

pub lives_at_lem : (m : Model) (p : ℕ) → lives_at m p ≡ true → (thread m p).standing ≢ Empty
lives_at_lem m p e = eqb-false (thread m p).standing Empty (not-true _ e)

pub at_lives : (m : Model) (p : ℕ) → (thread m p).standing ≢ Empty → lives_at m p ≡ true
at_lives m p h = rw (ne_eqb (thread m p).standing Empty h)

pub at_empty : (m : Model) (p : ℕ) → not (lives_at m p) ≡ true → (thread m p).standing ≡ Empty
at_empty m p e = eqb-true _ Empty (not-false _ (not-true _ e))

-- ---- the first place whose live thread has n in some field: as its number, or as its answer's who

module _ (field : Thread → ℕ) (m : Model) (n : ℕ) where
  abbrev spot : ℕ
  spot = first_of (λ p. lives_at m p && eqb (field (thread m p)) n) all_places

  at_place : (p : ℕ) → lives_at m p && eqb (field (thread m p)) n ≡ true → ((thread m p).standing ≢ Empty) × (field (thread m p) ≡ n)
  at_place p e = (
    lives_at_lem m p (and_left (lives_at m p) (eqb (field (thread m p)) n) e),
    eqb-true (field (thread m p)) n (and_right (lives_at m p) (eqb (field (thread m p)) n) e),
  )

  found_there : spot ≢ none → ((thread m spot).standing ≢ Empty) × (field (thread m spot) ≡ n)
  found_there h = at_place spot (found_passes (λ p. lives_at m p && eqb (field (thread m p)) n) all_places h)

  module _ (S : Sound m) where
    live_there : (s : ℕ) → (thread m s).standing ≢ Empty → field (thread m s) ≡ n → ((thread m spot).standing ≢ Empty) × (field (thread m spot) ≡ n)
    unfolding all_places
    live_there s h z =
        let i : s < places = small m S s h in
        at_place spot (found_from (λ p. lives_at m p && eqb (field (thread m p)) n) places 0 s (omega arith) (omega arith)
        (rw (ne_eqb (thread m s).standing Empty h) (eq-eqb (field (thread m s)) n z)))

    nobody_there : spot ≡ none → (s : ℕ) → (thread m s).standing ≢ Empty → field (thread m s) ≢ n
    nobody_there e s h z = let v = live_there s h z in let i : spot < places = small m S spot v.0 in omega arith

-- a number whose place is found lives there ..
pub placed : (m : Model) (n : ℕ) → place_of m n ≢ none → ((thread m (place_of m n)).standing ≢ Empty) × ((thread m (place_of m n)).number ≡ n)
placed m n h = found_there (λ t. t.number) m n h

-- .. and the place of a live number is found
pub live_placed : (m : Model) → Sound m → (n : ℕ) → Live m n → ((thread m (place_of m n)).standing ≢ Empty) × ((thread m (place_of m n)).number ≡ n)
live_placed m S n l = live_there (λ t. t.number) m n S l.0 l.1 l.2

-- the only one
pub place_only : (m : Model) → Sound m → (p : ℕ) → (thread m p).standing ≢ Empty → place_of m (thread m p).number ≡ p
place_only m S p h = let v = live_placed m S (thread m p).number (p, h, refl) in S.differ _ p v.0 v.1

-- a number that is not in use is nobody's
pub unused : (m : Model) → Sound m → (n : ℕ) → place_of m n ≡ none → (s : ℕ) → (thread m s).standing ≢ Empty → (thread m s).number ≢ n
unused m S n e = nobody_there (λ t. t.number) m n S e

-- one that nobody has is not in use
pub not_in_use : (m : Model) (n : ℕ) → ((s : ℕ) → (thread m s).standing ≢ Empty → (thread m s).number ≢ n) → in_use m n ≡ false
not_in_use m n h = by_test (in_use m n) (λ e. let v = placed m n (eqb-false _ _ (not-true _ e)) in absurd (h (place_of m n) v.0 v.1)) (λ e. e)

-- ---- a barred number

-- the thread at r lives, and n is its number
abbrev pub NumberAt : Model → ℕ → ℕ → Type 0
NumberAt m r n = ((thread m r).standing ≢ Empty) × ((thread m r).number ≡ n)

-- the thread at p lives, and its answer names n
abbrev pub HeldAt : Model → ℕ → ℕ → Type 0
HeldAt m p n = ((thread m p).standing ≢ Empty) × ((thread m p).who ≡ n)

-- what is barred is some place's in one of these ways
pub barred_by : (m : Model) (n : ℕ) → barred m n ≡ true → (p : ℕ) × (NumberAt m p n ⊎ HeldAt m p n)
barred_by m n e =
    by_test (in_use m n)
    (λ t. (place_of m n, inl (placed m n (eqb-false _ _ (not-true _ t)))))
    (λ t. (holder_of m n, inr (found_there (λ t. t.who) m n (eqb-false _ _ (not-true _ (rw t at e))))))

-- and what is not barred is no place's in either
pub not_barred : (m : Model) → Sound m → (n : ℕ) → barred m n ≡ false → (s : ℕ) → (NumberAt m s n → ⊥) × (HeldAt m s n → ⊥)
not_barred m S n e s =
    by_test (in_use m n)
    (λ t. never (rw t) e)
    (λ t. (
      (λ h. unused m S n (eqb-true _ _ (not-false _ t)) s h.0 h.1),
      (λ h. nobody_there (λ t. t.who) m n S (eqb-true _ _ (not-false _ (rw t at e))) s h.0 h.1),
    ))

-- ---- the lowest empty place

module _ (m : Model) (h : empty_place m ≢ none) where
  pub empty : (thread m (empty_place m)).standing ≡ Empty
  empty = at_empty m (empty_place m) (found_passes (λ p. not (lives_at m p)) all_places h)

  pub empty_place_lem : empty_place m < places
  empty_place_lem = only_places (empty_place m) (found_in (λ p. not (lives_at m p)) all_places h)

  -- who lives stands elsewhere
  pub elsewhere : (s : ℕ) → (thread m s).standing ≢ Empty → s ≢ empty_place m
  elsewhere s l z = l (rw z empty)

-- where not every place lives, there is one
pub not_full : (m : Model) → full m ≡ false → empty_place m ≢ none
not_full m f e = eqb-false _ _ f (tally_full places (lives_at m) (λ p i. not-false _ (found_none (λ p. not (lives_at m p)) all_places no_none e p (every_place p i))))
  where
    no_none : count none all_places ≡ 0
    no_none = elim (dec_lt 0 (count none all_places)) [ yes h ↦ let i = only_places none h in absurd (omega arith) | no n ↦ omega arith ]
