-- What a test in the code tells of its input: the contract of a function that answers yes or no. Assumes nothing.
use Rattle.std.specs.Prelude.{◌≡◌, refl, Bool, true, false, ℕ, eqb}
use Rattle.std.proofs.Common.{eqb-true}
use Rattle.std.proofs.lemmas.Bool.{eqb-false}
use Rattle.lists.specs.Laws.{never}

-- A if the answer is yes, B if it is no
pub record Tells (r : Bool) (A B : Type 0) : Type 0 where
  pub yes : r ≡ true → A
  pub no : r ≡ false → B

pub tells_yes : {A B : Type 0} → A → Tells true A B
tells_yes a = record { yes = λ e. a; no = λ e. never refl e }

pub tells_no : {A B : Type 0} → B → Tells false A B
tells_no b = record { yes = λ e. never e refl; no = λ e. b }

pub tells_eq : {A B : Type 0} (a b : ℕ) → (a ≡ b → A) → ((a ≡ b → ⊥) → B) → Tells (eqb a b) A B
tells_eq a b f g = record { yes = λ e. f (eqb-true a b e); no = λ e. g (eqb-false a b e) }
