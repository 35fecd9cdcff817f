-- The running thread, which calls: it stands in no line, and may give up its turn.
use Rattle.std.specs.Prelude.{ℕ, ◌≡◌, refl, ◌≢◌, false}
use Rattle.std.proofs.Common.{arith}
use Rattle.lists.specs.Lists.{none}
use Rattle.rules.specs.Values.{nobody}
use Rattle.rules.specs.Model.{Empty, Running, Ready, Model, ready, thread}
use Rattle.rules.specs.Rules.{runs, readied, stands}
use Rattle.rules.specs.Consistent.{belongs}
use Rattle.order.specs.Sound.{Sound}
use Rattle.order.specs.Belongs.{in_none, in_ready}
use Rattle.order.specs.Lines.{joins}
use Rattle.order.specs.Moves.{Step, stepped, stopping}
use Rattle.order.specs.Standings.{plain, as_told}

module _ (m : Model) (S : Sound m) (busy : m.running ≢ none) where
  pub one : (thread m m.running).standing ≡ Running
  one = S.busy busy

  pub alive : (thread m m.running).standing ≢ Empty
  alive = λ z. let o = one in omega arith

  pub nowhere : (q : ℕ) → belongs m (thread m m.running) q ≡ false
  nowhere = let o = one in in_none m (thread m m.running) (omega arith)

  -- to the back of ready
  pub yields : Step m (runs none (readied m.running m))
  yields =
      let o = one in
      let t = stands Ready nobody 0 (thread m m.running) in
      stepped m m.running t none _ S (plain m S m.running alive Ready _ _ _ none _ (omega arith) refl (as_told m S m.running)
      (stopping m S m.running t one (omega arith))
      (joins m S m.running t ready (omega arith) nowhere (in_ready m t refl)))
      (omega arith)
