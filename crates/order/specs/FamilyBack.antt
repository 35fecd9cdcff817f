-- The end of a family: nothing enters ready except at the back. After it, ready is what stays of it, in its order, and behind that those who join; and
-- nobody leaves ready and joins it again, since who leaves is gone.
-- Here stand the words; the laws of them stand in proofs/FamilyBack.antt.
use Rattle.std.specs.Prelude.{ℕ, ◌≡◌, List, ◌++◌, true, false}
use Rattle.lists.specs.Lists.{among}
use Rattle.rules.specs.Model.{Model, ready, line, lives_at}
use Rattle.order.specs.Grown.{Remains, Grown}

-- of two lists, one behind the other, remains something of the one, and behind it something of the other
pub record Split (xs ys zs : List ℕ) : Type 0 where
  pub fore : List ℕ
  pub aft : List ℕ
  pub both : zs ≡ fore ++ aft
  pub left : Remains xs fore
  pub right : Remains ys aft

-- ---- ready, from end to end
pub record Onward (m k : Model) : Type 0 where
  pub grown : Grown (line m ready) (line k ready)
  pub fewer : (r : ℕ) → lives_at k r ≡ true → lives_at m r ≡ true
  pub dropped : (r : ℕ) → among r (line m ready) ≡ true → among r (line k ready) ≡ false → lives_at k r ≡ false
