-- A consistent model that an edition can hold has nobody at a place that the edition has not: nobody lives there, waits there in any line, or runs there.
use Rattle.std.specs.Prelude.{ℕ, ◌<◌, ◌≡◌, ◌≢◌, true}
use Rattle.std.proofs.Math.Decide.{dec_lt}
use Rattle.std.proofs.Common.{arith}
use Rattle.lists.specs.Lists.{none, among}
use Rattle.rules.specs.Model.{Place, Empty, Model, thread, line}
use Rattle.rules.specs.Consistent.{OldConsistent}
use Rattle.order.specs.Sound.{old_sound, inside}
use Rattle.order.specs.Stood.{stands_live}
use Rattle.saving.specs.Format.{Holds}
use Rattle.saving.specs.declared.format.Row.{Row}

module _ {row : Row} {m : Model} (H : Holds row m) (C : OldConsistent m) where
  pub lives_held : (p : Place) → (thread m p).standing ≢ Empty → p < row.places
  lives_held p l =
      elim (dec_lt p row.places) [ yes h ↦ h | no h ↦ absurd (let k = inside m C.threads p l in let z = H.places p (omega arith) k in l (omega arith)) ]

  pub stands_held : (p : Place) (q : ℕ) → among p (line m q) ≡ true → p < row.places
  stands_held p q a = lives_held p (stands_live m (old_sound m C) p q a)

  pub runs_held : m.running ≢ none → m.running < row.places
  runs_held k = let e = C.busy k in lives_held m.running (omega arith)
