-- What it comes to that a number stands for a place, or for none.
use Rattle.std.specs.Prelude.{◌≡◌, Option, Some, None, is_some, true, ℕ}
use Rattle.std.proofs.Common.{sym, ◌∙◌, ap, subst, arith}
use Rattle.lists.specs.Lists.{none, known}

none_is : (x : ℕ) → known x ≡ None → x ≡ none
none_is x e = grind arith

some_is : (x : ℕ) {p : ℕ} → known x ≡ Some p → (x ≡ p) × (x ≡ none → ⊥)
some_is x e = grind arith

is_some_is : (x : ℕ) → is_some (known x) ≡ true → x ≡ none → ⊥
is_some_is x e z = grind arith

module _ {o : Option ℕ} {x : ℕ} (e : o ≡ known x) where
  pub known_none : o ≡ None → x ≡ none
  known_none f = none_is x (sym e ∙ f)

  pub known_some : {p : ℕ} → o ≡ Some p → (x ≡ p) × (x ≡ none → ⊥)
  known_some f = some_is x (sym e ∙ f)

  -- what holds of the number holds of the place
  pub known_of : {p : ℕ} (P : ℕ → Type 0) → o ≡ Some p → P x → P p
  known_of P f h = subst P (known_some f).0 h

  pub known_yes : is_some o ≡ true → x ≡ none → ⊥
  known_yes f = is_some_is x (ap is_some (sym e) ∙ f)
