-- After an end nobody waits for one that ended, alone or with its family: nobody sends to it, awaits its reply or receives from it.
-- Here stand the words; the laws of them stand in proofs/NobodyWaits.antt.
use Rattle.std.specs.Prelude.{ℕ, ◌≤◌, ◌≡◌}
use Rattle.rules.specs.Model.{Sending, Receiving, Model, thread}

-- whoever sends to a thread, awaits its reply or receives from it waits for it
abbrev pub WaitsFor : Model → ℕ → ℕ → Type 0
WaitsFor m n p = (Sending ≤ (thread m p).standing) × ((thread m p).standing ≤ Receiving) × ((thread m p).partner ≡ n)
