-- The search for the place of a number, place by place: it finds the one that the rules speak of.
use Rattle.std.specs.Prelude.{◌≡◌, List, Bool, cond, ◌&&◌, eqb, get_or}
use Rattle.std.proofs.Common.{◌∙◌, add-one, eq-eqb, ne_eqb}
use Prim.Native.Nat.{ℕ, suc, ◌+◌, ◌-◌, ◌≤◌, ◌<◌}
use native.Mathlib.Omega.{arith}
use Rattle.lists.specs.Lists.{none, first_of, up_from}
use Rattle.lists.specs.Search.{first_ext}
use Rattle.rules.specs.Model.{places, Empty, all_places, thread, lives_at}
use Rattle.rules.specs.Rules.{place_of}
use Rattle.table.specs.Cells.{cell, model_of, stands_at}
use Rattle.table.specs.Rows.{thread_at}

-- does a thread of number n stand at p
abbrev pub named : List ℕ → ℕ → ℕ → Bool
named b n p = stands_at b p && eqb (get_or b (cell 0 p) 0) n

-- the first such place of k, k + 1, .., c of them. (No abbrev: c is a numeral.)
unfoldable pub found_from : List ℕ → ℕ → ℕ → ℕ → ℕ
found_from b n k c = first_of (named b n) (up_from k c)

-- of all places
abbrev pub found : List ℕ → ℕ → ℕ
found b n = found_from b n 0 places

pub found_is : (y x n : ℕ) (b w l : List ℕ) → place_of (model_of y x b w l) n ≡ found b n
unfolding found_from all_places
found_is y x n b w l =
    first_ext (λ p. lives_at (model_of y x b w l) p && eqb (thread (model_of y x b w l) p).number n) (named b n) places 0 (λ p i. rw (thread_at y x b w l p (omega arith)))

module _ (b : List ℕ) (n i : ℕ) where
  step : i < places → found_from b n i (places - i) ≡ cond (named b n i) i (found_from b n (suc i) (places - suc i))
  unfolding found_from
  step h = let e : places - i ≡ suc (places - suc i) = omega arith in rw e

  pub found_past : places ≤ i → found_from b n i (places - i) ≡ none
  unfolding found_from
  found_past h = let e : places - i ≡ 0 = omega arith in rw e

  pub found_here : i < places → (get_or b (cell 1 i) 0 ≡ Empty → ⊥) → get_or b (cell 0 i) 0 ≡ n → found_from b n i (places - i) ≡ i
  found_here h s e = step h ∙ rw (ne_eqb (get_or b (cell 1 i) 0) Empty s, eq-eqb (get_or b (cell 0 i) 0) n e)

  pub found_dead : i < places → get_or b (cell 1 i) 0 ≡ Empty → found_from b n i (places - i) ≡ found_from b n (i + 1) (places - (i + 1))
  found_dead h s = step h ∙ rw (eq-eqb (get_or b (cell 1 i) 0) Empty s, add-one)

  pub found_other : i < places → (get_or b (cell 1 i) 0 ≡ Empty → ⊥) → (get_or b (cell 0 i) 0 ≡ n → ⊥) → found_from b n i (places - i) ≡ found_from b n (i + 1) (places - (i + 1))
  found_other h s e = step h ∙ rw (ne_eqb (get_or b (cell 1 i) 0) Empty s, ne_eqb (get_or b (cell 0 i) 0) n e, add-one)
