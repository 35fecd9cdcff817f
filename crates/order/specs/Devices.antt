-- Events 9 and 10: wait at a device, interrupt.
use Rattle.std.specs.Prelude.{ℕ, ◌<◌, ◌≡◌, refl, ◌≢◌, List, [], ◌∷◌, Bool, true, false, cond, eqb}
use Rattle.std.proofs.Common.{sym, ◌∙◌, arith, eqb-true, lt-ltb}
use Rattle.std.proofs.lemmas.Bool.{eqb-false}
use Rattle.lists.specs.Lists.{none}
use Rattle.lists.specs.Laws.{and_left, and_right}
use Rattle.lists.specs.Search.{up_from_within, found_in}
use Rattle.rules.specs.Model.{devices, AtDevice, Model, device, thread, line}
use Rattle.rules.specs.Devices.{pends, all_devices, first_pending}
use Rattle.rules.specs.Rules.{stands, wait_device, served_at, interrupt}
use Rattle.rules.specs.declared.Pending.{Pending}
use Rattle.order.specs.ByLine.{at_device}
use Rattle.order.specs.Sound.{Short, Sound, front_belongs}
use Rattle.order.specs.Belongs.{in_device}
use Rattle.order.specs.Lines.{joins}
use Rattle.order.specs.Moves.{Step, stepped, still, stopping}
use Rattle.order.specs.Caller.{one, alive, nowhere}
use Rattle.order.specs.Clock.{brings}

-- ---- 9

pub attends : (m : Model) → Sound m → m.running ≢ none → (i : ℕ) → i < devices → Step m (wait_device i m)
attends m S busy i low =
    let c = m.running in
    let o = one m S busy in
    let t = stands AtDevice i 0 (thread m c) in
    let F = S.fits c in
    stepped m c t none _ S (record {
      lived = alive m S busy;
      lives = omega arith;
      named = refl;
      raised = refl;
      fit = record {
        clean = λ z. absurd (omega arith);
        table = λ _. rw (lt-ltb i devices low);
        answer = F.answer;
        number = λ _. F.number (alive m S busy);
        apart = λ _ n. absurd (n refl);
        words = (omega arith, F.words.1);
      };
      turn = stopping m S c t o (omega arith);
      shift = joins m S c t (device i) (omega arith) (nowhere m S busy) (in_device m t refl i refl low);
      served = λ a b. absurd (omega arith);
      hearing = λ s a b. refl;
      heard = λ r a b. absurd (omega arith);
      listens = λ five _. absurd (omega arith);
    }) (omega arith)

-- ---- 10

-- the longest waiter at i, if there is one
serve : (m : Model) → Sound m → (i w : ℕ) → Short w → i < devices → (l : List ℕ) → line m (device i) ≡ l → Step m (served_at i l w m)
serve m S i w short low [] e = still m S
serve m S i w short low (p ∷ l) e =
    let g = sym (at_device m (thread m p) i low) ∙ front_belongs m S p (device i) l e in
    let seven : (thread m p).standing ≡ AtDevice = eqb-true _ _ (and_left _ (eqb (device i) (device (thread m p).partner)) g) in
    let f : device i ≡ device (thread m p).partner = eqb-true _ _ (and_right (eqb (thread m p).standing AtDevice) _ g) in
    brings m S (device i) p w l short (omega arith) (omega arith) e (in_device m (thread m p) seven i (omega arith) low)

-- the first pending index is one of the 48
pub first_low : (s : Pending) → first_pending s ≢ none → first_pending s < devices
unfolding all_devices
first_low s h = up_from_within devices 0 (first_pending s) (found_in (pends s) all_devices h)

pub interrupts : (m : Model) → Sound m → (s : Pending) (w : ℕ) → Short w → Step m (interrupt s w m)
interrupts m S s w short = go (eqb (first_pending s) none) refl
  where
    go : (b : Bool) → eqb (first_pending s) none ≡ b → Step m (cond b m (served_at (first_pending s) (line m (device (first_pending s))) w m))
    go true e = still m S
    go false e = serve m S (first_pending s) w short (first_low s (eqb-false _ _ e)) (line m (device (first_pending s))) refl
