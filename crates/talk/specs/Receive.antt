-- Event 3, receive: the first match in the caller's inbox is taken, or the caller receives.
-- Here stand the words; the laws of them stand in proofs/Received.antt.
use Rattle.std.specs.Prelude.{◌≡◌, List, Result, ℕ}
use Rattle.rules.specs.Values.{code_in}
use Rattle.rules.specs.Rules.{refusal}
use Rattle.rules.specs.declared.Number.{Number}
use Rattle.rules.specs.declared.Refusal.{Refusal}
use Rattle.rules.specs.declared.Event.TheVariants.{Receive}
use Rattle.table.specs.Cells.{shown, Stands}
use Rattle.table.specs.declared.Desk.{Desk}

-- ---- codes 1 to 4
abbrev pub SourcesBy : Desk → List ℕ → Number → ℕ → Type 0
SourcesBy d b n r = (w l : List ℕ) → Stands d b w l → r ≡ refusal (Receive n) (shown d b w l)

abbrev pub Sources : {A : Type 0} → Desk → List ℕ → Number → Result A Refusal → Type 0
Sources d b n r = SourcesBy d b n (code_in r)
