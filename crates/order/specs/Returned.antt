-- No send is lost where a family ends (document 02, P5): whoever was sending to one of it, or awaited its reply, comes back with 16, the receiver and its own
-- word; or it was of the family itself, and ended. In the order of the ends: when the receiver's turn comes the sender has ended first, or the word comes back
-- with that end.
-- Here stand the words; the laws of them stand in proofs/Returned.antt.
use Rattle.std.specs.Prelude.{◌≡◌}
use Rattle.rules.specs.Model.{Ready, Thread}

-- ---- what becomes of a sender

-- t sent a word, and is now u: ready, and told 16, the receiver and the word
pub record Returned (t u : Thread) : Type 0 where
  pub standing : u.standing ≡ Ready
  pub code : u.code ≡ 16
  pub who : u.who ≡ t.partner
  pub answer : u.answer ≡ t.word
