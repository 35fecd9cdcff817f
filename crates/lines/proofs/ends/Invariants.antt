-- `ends` meets its contract. The loop's invariant: each place passed that has no mark holds none. Assumes nothing.
use Prim.Native.Nat.{ℕ, ◌<◌}
use mathlib.Core.Path.{◌≡◌}
use lib.ListN.{get_or}
use Rattle.lists.specs.Lists.{none}
use Rattle.lines.proofs.ends.Given as goal

abbrev pub invariant-loop-p : goal.invariant-loop-p
invariant-loop-p l = (i : ℕ) → i < l.p → get_or l.seen i 0 ≡ none → get_or l.l i 0 ≡ none
