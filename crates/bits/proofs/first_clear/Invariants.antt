-- `first_clear` meets its contract: all from n on that are below what the loop has come to are in the set. Assumes nothing.
use mathlib.Core.Path.{◌≡◌}
use mathlib.Core.Bool.{Bool}
use Prim.Native.Nat.{ℕ, ◌-◌, ◌*◌, ◌≤◌}
use Rattle.order.specs.FirstFree.{AllUsed}
use Rattle.bits.specs.Set.{word_digits, word_count, set_of}
use Rattle.bits.proofs.first_clear.Given as goal

abbrev pub invariant-loop-at : goal.invariant-loop-at
invariant-loop-at l = (l.n ≤ l.at) × ((f : ℕ → Bool) → l.s ≡ set_of f → AllUsed f l.n l.at)

abbrev pub decreases-loop-at : goal.decreases-loop-at
decreases-loop-at l = word_digits * word_count - l.at
