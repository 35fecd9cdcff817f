-- WHAT THE UPDATE LOAD PROMISES, of any bytes whatever (document 02, P2): it refuses as load does, but takes what the old rules call consistent and wakes each
-- receiver that names a dead thread. That it settles the answer, and what it comes to, are laws.
-- Here stand the words; the laws of them stand in proofs/Updates.antt.
use Rattle.std.specs.Prelude.{ℕ, ◌≤◌, ◌≡◌, List}
use Rattle.rules.specs.Model.{Sending, Awaiting, Model, inbox, thread, line}
use Rattle.rules.specs.Rules.{updated}
use Rattle.nucleus.specs.View.{Shows}
use Rattle.loading.specs.Loads.{Refused, OldImage, OldRefuses}
use Rattle.loading.specs.declared.Loaded.{Loaded}

pub data Updates (s : List ℕ) (r : Loaded) : Type 0 where
  -- refused as load refuses, but for P2's clause, which the old rules do not know: the fresh state
  refused : (c : ℕ) → OldRefuses s c → Refused c r → Updates s r
  -- the bytes are the image of m by the old rules: m, updated
  taken_over : (m : Model) → OldImage m s → r.code ≡ 0 → Shows r.state (updated m) → Updates s r

-- every send that was unanswered before is so after, in the same place with the same word, and the inboxes are as they were
pub record NothingLost (m k : Model) : Type 0 where
  pub sends : (p : ℕ) → Sending ≤ (thread m p).standing → (thread m p).standing ≤ Awaiting → thread k p ≡ thread m p
  pub inboxes : (p : ℕ) → line k (inbox p) ≡ line m (inbox p)
