-- The array in which all lines are empty: NONE in every cell. Assumes nothing.
use Rattle.std.specs.Prelude.{◌≡◌, refl, List, [], ℕ, ◌+◌, ◌≤◌, ◌<◌, get_or, replicate}
use Rattle.std.proofs.Common.{arith}
use Rattle.std.proofs.lemmas.List.{length-replicate, get_or-replicate}
use Rattle.lists.specs.Lists.{none}
use Rattle.lines.specs.Lines.{Is, Clear}
use Rattle.lines.specs.Arrays.{is_line_lem, is_tidy}

module _ (P N : ℕ) (small : P ≤ none) where
  abbrev pub blank : List ℕ
  blank = replicate (P + N + N) none

  blank_at : (i : ℕ) → i < P + N + N → get_or blank i 0 ≡ none
  blank_at i h = get_or-replicate (P + N + N) i none 0 h

  blank_is : Is P N blank (λ q. [])
  blank_is = record {
    whole = length-replicate (P + N + N) none;
    linked = λ q h. blank_at (P + q) (omega arith);
    tails = λ q h. blank_at (P + N + q) (omega arith);
    apart = λ q r x h g n a. refl;
    canon = λ p h f. blank_at p (omega arith);
  }

  pub blank_clear : Clear P N blank
  blank_clear = record { tidy = is_tidy P N small blank (λ q. []) blank_is; empty = is_line_lem P N small blank (λ q. []) blank_is }
