-- Event 2, send: the receiver has been waiting for it, or the sender joins its inbox.
use Rattle.std.specs.Prelude.{ℕ, ◌≤◌, ◌<◌, ◌≡◌, refl, ◌≢◌, Bool, true, false, cond}
use Rattle.std.proofs.Common.{sym, ◌∙◌, arith, eqb-true, le-leb}
use Rattle.lists.specs.Lists.{none}
use Rattle.rules.specs.Model.{places, last_number, Empty, Sending, Awaiting, Receiving, Model, inbox, thread}
use Rattle.rules.specs.Rules.{place_of, mine, join, stands, woken, stops, wants, hears, send_to, send}
use Rattle.lists.specs.Laws.{and_left}
use Rattle.order.specs.Sound.{Short, Sound, small}
use Rattle.order.specs.Belongs.{in_none, in_inbox}
use Rattle.order.specs.Places.{placed}
use Rattle.order.specs.Lines.{stays, joins}
use Rattle.order.specs.Moves.{beside, Step, stepped, then, stopping}
use Rattle.order.specs.Standings.{named, wakes, told_by}
use Rattle.order.specs.Caller.{one, alive, nowhere}

-- to the live thread d at p
module _ (m : Model) (S : Sound m) (busy : m.running ≢ none) (p d w : ℕ) (short : Short w)
    (live : (thread m p).standing ≢ Empty) (at : (thread m p).number ≡ d) (n : d ≢ mine m) where
  low : d ≤ last_number
  low = rw at at ((S.fits p).number live)

  -- the caller stops and awaits the reply, in no line
  pub pauses : Step m (stops Awaiting d w m)
  pauses =
      let o = one m S busy in
      let t = stands Awaiting d w (thread m m.running) in
      stepped m m.running t none _ S (named m S m.running (alive m S busy) Awaiting d w none _ (omega arith) (le-leb d last_number low) short (p, live, at) n
      (λ r e. absurd (omega arith))
      (stopping m S m.running t o (omega arith))
      (stays m S m.running t (λ q. in_none m t (omega arith) q ∙ sym (nowhere m S busy q))))
      (omega arith)

  -- or in the inbox
  pub queues : hears (thread m p) (mine m) ≡ false → Step m (join (inbox p) m.running (stops Sending d w m))
  queues f =
      let o = one m S busy in
      let t = stands Sending d w (thread m m.running) in
      let i : p < places = small m S p live in
      stepped m m.running t none _ S (named m S m.running (alive m S busy) Sending d w none _ (omega arith) (le-leb d last_number low) short (p, live, at) n
      (λ r _ e. let z : p ≡ r = S.differ p r live (at ∙ e) in rw (← z) f)
      (stopping m S m.running t o (omega arith))
      (joins m S m.running t (inbox p) (omega arith) (nowhere m S busy) (in_inbox m t S p live refl (sym at))))
      (omega arith)

  pub meets : hears (thread m p) (mine m) ≡ true → Step m (woken p 0 (mine m) w (stops Awaiting d w m))
  meets f =
      let five : (thread m p).standing ≡ Receiving = eqb-true _ _ (and_left _ (wants (thread m p).partner (mine m)) f) in
      let o = one m S busy in
      let ne : p ≢ m.running = λ z. let y : ◌≡◌ {A = ℕ} 1 5 = cc in omega arith in
      let k = stops Awaiting d w m in
      let five' : (thread k p).standing ≡ Receiving = rw (beside m m.running p (stands Awaiting d w (thread m m.running)) ne) five in
      then m k (woken p 0 (mine m) w k) pauses (wakes k pauses.kept.sound p (omega arith) 0 (mine m) w
      (told_by 0 (mine m) w ((S.fits m.running).number (alive m S busy)) refl short) (omega arith) (omega arith))

  pub sends_to : Step m (send_to p (mine m) d w m)
  sends_to = go (hears (thread m p) (mine m)) refl
    where
      go : (b : Bool) → hears (thread m p) (mine m) ≡ b → Step m (cond b (woken p 0 (mine m) w (stops Awaiting d w m)) (join (inbox p) m.running (stops Sending d w m)))
      go true e = meets e
      go false e = queues e

pub sends : (m : Model) → Sound m → m.running ≢ none → (d w : ℕ) → Short w → place_of m d ≢ none → d ≢ mine m → Step m (send d w m)
sends m S busy d w short h n = let at = placed m d h in sends_to m S busy (place_of m d) d w short at.0 at.1 n
