-- Events 6, 7 and 8: wait for the clock, slice end, tick.
use Rattle.std.specs.Prelude.{ℕ, ◌≤◌, ◌<◌, ◌≡◌, refl, ◌≢◌, List, [], ◌∷◌, Bool, true, false, cond, eqb}
use Rattle.std.proofs.Common.{arith, eqb-true}
use Rattle.std.proofs.lemmas.Bool.{eqb-false}
use Rattle.lists.specs.Lists.{none}
use Rattle.rules.specs.Values.{nobody}
use Rattle.rules.specs.Model.{line_count, Empty, Ready, Waiting, Model, ready, clock, thread, line}
use Rattle.rules.specs.Consistent.{belongs}
use Rattle.rules.specs.Rules.{idle, runs, relined, readied, stands, woken, wait_clock, slice_end, rung, tick}
use Rattle.order.specs.Sound.{Short, Sound, small, front_belongs}
use Rattle.order.specs.Belongs.{in_ready, in_clock}
use Rattle.order.specs.Lines.{drops_front, joins, passes, tail_line}
use Rattle.order.specs.Moves.{Step, stepped, still, then, stopping, aside}
use Rattle.order.specs.Standings.{become, plain, as_told}
use Rattle.order.specs.Caller.{one, alive, nowhere, yields}

pub rests : (m : Model) → Sound m → m.running ≢ none → Step m (wait_clock m)
rests m S busy =
    let o = one m S busy in
    let t = stands Waiting nobody 0 (thread m m.running) in
    stepped m m.running t none _ S (plain m S m.running (alive m S busy) Waiting _ _ _ none _ (omega arith) refl (as_told m S m.running)
    (stopping m S m.running t o (omega arith))
    (joins m S m.running t clock (omega arith) (nowhere m S busy) (in_clock m t refl)))
    (omega arith)

pub slice_ends : (m : Model) → Sound m → Step m (slice_end m)
slice_ends m S = go (idle m) refl
  where
    go : (b : Bool) → idle m ≡ b → Step m (cond b m (runs none (readied m.running m)))
    go true e = still m S
    go false e = yields m S (eqb-false _ _ e)

-- the first of those who wait outside, in a line q of their own, goes to the back of ready
pub brings : (m : Model) → Sound m → (q p w : ℕ) (l : List ℕ) → Short w → q < line_count → Waiting ≤ (thread m p).standing → line m q ≡ p ∷ l
    → ((r : ℕ) → belongs m (thread m p) r ≡ eqb r q) → Step m (woken p 0 nobody w (relined q l m))
brings m S q p w l short h st e own =
    let lived : (thread m p).standing ≢ Empty = omega arith in
    let t = become m p Ready nobody 0 0 nobody w in
    stepped m p t m.running _ S (plain m S p lived Ready 0 nobody w m.running _ (omega arith) refl (record { allowed = refl; short = short })
    (aside m S p t (omega arith) (small m S p lived) (omega arith))
    (passes m S p t q h l (drops_front m p q l e) own ready (omega arith) (in_ready m t refl)))
    (omega arith)

-- the first that waits for the clock
pub ring : (m : Model) → Sound m → (p : ℕ) (l : List ℕ) → line m clock ≡ p ∷ l → Step m (woken p 0 nobody 0 (relined clock l m))
ring m S p l e =
    let six : (thread m p).standing ≡ Waiting = eqb-true _ _ (front_belongs m S p clock l e) in
    brings m S clock p 0 l (omega arith) (omega arith) (omega arith) e (in_clock m (thread m p) six)

pub rings : (l : List ℕ) (m : Model) → Sound m → line m clock ≡ l → Step m (rung l m)
rings [] m S e = still m S
rings (p ∷ l) m S e =
    let k = woken p 0 nobody 0 (relined clock l m) in
    let F = ring m S p l e in
    then m k (rung l k) F (rings l k F.kept.sound (tail_line m S p clock ready l (omega arith) (omega arith)))

pub ticks : (m : Model) → Sound m → Step m (tick m)
ticks m S = rings (line m clock) m S refl
