-- The state, as the rules see it, and what the public operations promise of any state whatever.
use Rattle.std.specs.Prelude.{◌≡◌, List, Bool, true, ℕ}
use Rattle.rules.specs.Model.{Model}
use Rattle.table.specs.Cells.{shown_in, StandsByIn}
use Rattle.table.specs.declared.Desk.{Desk}
use Rattle.nucleus.specs.declared.State.{State}

abbrev pub laid : Desk → List ℕ → List ℕ → List ℕ → State
laid d b w l = record { desk = d; arrays = record { table = record { blocks = b; words = w }; lines = l } }

-- the model that a state stands for
abbrev pub view : State → Model
view s = shown_in s.desk s.arrays

-- The state is consistent: of a consistent model, with tidy lines, clean values, and the filled set that of the live threads. By the rules as they are, or
-- (strict is false) by the old ones.
abbrev pub ConsistsBy : Bool → State → Type 0
ConsistsBy strict s = StandsByIn strict s.desk s.arrays

abbrev pub Consists : State → Type 0
Consists s = ConsistsBy true s

-- the state is consistent, and stands for m. (There is one such state: Settled.)
pub record ShowsBy (strict : Bool) (s : State) (m : Model) : Type 0 where
  pub consists : ConsistsBy strict s
  pub seen : view s ≡ m

abbrev pub Shows : State → Model → Type 0
Shows s m = ShowsBy true s m

-- what is promised of a consistent state, and what of any other
pub data Looked (s : State) (A B : Type 0) : Type 0 where
  held : Consists s → A → Looked s A B
  refused : (Consists s → ⊥) → B → Looked s A B
