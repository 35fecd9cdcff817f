-- One thread ends. The code takes the thread out of its line last, when all that waited for it have been let go: every state on the way is Sound,
-- and the rules say that the order makes no difference (crate `order`, `written_at`).
use Rattle.std.specs.Prelude.{◌≡◌, refl, List, ◌≢◌, ℕ, ◌+◌, ◌≤◌, ◌<◌, get_or}
use Rattle.std.proofs.Common.{sym, ap, subst, ◌∙◌, arith}
use Rattle.rules.specs.Model.{places, devices, last_number, Empty, Sending, Thread, vacant, Model, inbox, all_places, thread, line}
use Rattle.rules.specs.Rules.{place_of, put, out_of_line, handed_back, let_go, awaiting, listening, end_at}
use Rattle.order.specs.Sound.{Sound, small, at_index}
use Rattle.order.specs.Places.{live_placed}
use Rattle.order.specs.HandBack.{Handed, hands, lets, awaiting_fair, listening_fair}
use Rattle.order.specs.Order.{written_at}
use Rattle.table.specs.Cells.{cell, thread_of, shown, Whole, inbox_lines, inbox_line}
use Rattle.table.specs.Rows.{thread_at}
use Rattle.table.specs.Stores.{Stored}
use Rattle.table.specs.Clean.{emptied}
use Rattle.table.specs.declared.Arrays.{Arrays}
use Rattle.table.specs.declared.Desk.{Desk}
use Rattle.verbs.specs.Steps.{Steps, Turns, wrote}
use Rattle.verbs.specs.Find.{found_is}
use Rattle.life.specs.Drain.{drains}
use Rattle.life.specs.HandBack.{backs, handed_drained}
use Rattle.life.specs.LetGo.{SoundOn, let_from, let_all}
use Rattle.life.specs.Leave.{Served}

-- the thread at p, which has the number n, ends. Its nucleus need only be Sound: more is not left when one of a family after another ends.
pub record EndsAt (d : Desk) (b w l : List ℕ) (n p : ℕ) : Type 0 where
  pub whole : Whole b w l
  pub sound : Sound (shown d b w l)
  pub lives : (thread (shown d b w l) p).standing ≢ Empty
  pub number : (thread (shown d b w l) p).number ≡ n

-- the same of the arrays as they are lent
abbrev pub EndsIn : Desk → Arrays → ℕ → ℕ → Type 0
EndsIn d a n p = EndsAt d a.table.blocks a.table.words a.lines n p

module _ {d : Desk} {b w l : List ℕ} {n p : ℕ} (k : EndsAt d b w l n p) where
  pub end_place : p < places
  end_place = small (shown d b w l) k.sound p k.lives

  pub end_low : n ≤ last_number
  end_low = let low = (k.sound.fits p).number k.lives in rw k.number at low

  -- those in the inbox have their word back
  module _ {b₁ w₁ l₁ : List ℕ} (s : Steps b w l b₁ w₁ l₁ (drains (backs n) (inbox_lines + p))) where
    back_seen : shown d b₁ w₁ l₁ ≡ handed_back n p (line (shown d b w l) (inbox p)) (shown d b w l)
    back_seen =
        let m = shown d b w l in
        s.seen d.last.0 d.running.0 ∙ rw (inbox_line p) (handed_drained n p (line m (inbox p)) m)

    handed : Handed (shown d b w l) p (shown d b₁ w₁ l₁)
    handed = let m = shown d b w l in rw back_seen (hands (line m (inbox p)) m k.sound n p end_low k.lives refl)

    pub end_lies : SoundOn b₁ w₁ l₁
    end_lies = record { last = d.last.0; running = d.running.0; whole = s.whole; sound = handed.step.kept.sound }

    -- and so have those who await a reply
    module _ {b₂ w₂ l₂ : List ℕ} (t : Steps b₁ w₁ l₁ b₂ w₂ l₂ (let_from (awaiting n) 0 places)) where
      let_seen : shown d b₂ w₂ l₂ ≡ let_go (awaiting n) all_places (shown d b₁ w₁ l₁)
      let_seen = t.seen d.last.0 d.running.0 ∙ let_all (awaiting n) (shown d b₁ w₁ l₁)

      let_sound : Sound (shown d b₂ w₂ l₂)
      let_sound = subst Sound (sym let_seen) (lets all_places (shown d b₁ w₁ l₁) handed.step.kept.sound (awaiting n) (awaiting_fair n end_low)).step.kept.sound

      pub let_lies : SoundOn b₂ w₂ l₂
      let_lies = record { last = d.last.0; running = d.running.0; whole = t.whole; sound = let_sound }

      -- and those who receive from it have been told
      module _ {b₃ w₃ l₃ : List ℕ} (r : Steps b₂ w₂ l₂ b₃ w₃ l₃ (let_from (listening n) 0 places)) where
        told_seen : shown d b₃ w₃ l₃ ≡ let_go (listening n) all_places (shown d b₂ w₂ l₂)
        told_seen = r.seen d.last.0 d.running.0 ∙ let_all (listening n) (shown d b₂ w₂ l₂)

        later : Sound (shown d b₃ w₃ l₃)
        later = subst Sound (sym told_seen) (lets all_places (shown d b₂ w₂ l₂) let_sound (listening n) (listening_fair n end_low)).step.kept.sound

        pub end_served : Served b₃ p
        end_served = record {
          sends = λ e.
              let three : (thread m p).standing ≡ Sending = ap (λ (u : Thread). u.standing) at ∙ e in
              let v = live_placed m later (thread m p).partner (later.served p (omega arith) (omega arith)) in
              let i : place_of m (thread m p).partner < places = small m later _ v.0 in
              subst (λ (q : ℕ). q < places) (ap (λ (u : Thread). place_of m u.partner) at ∙ found_is d.last.0 d.running.0 (get_or b₃ (cell 2 p) 0) b₃ w₃ l₃) i;
          waits = λ e. subst (λ (u : Thread). u.partner < devices) at (at_index m later p (ap (λ (u : Thread). u.standing) at ∙ e));
        }
          where
            m : Model
            m = shown d b₃ w₃ l₃

            at : thread m p ≡ thread_of b₃ w₃ p
            at = thread_at d.last.0 d.running.0 b₃ w₃ l₃ p end_place

        -- it leaves its line, and its place is cleaned
        pub ended : {e : Desk} {b₄ w₄ l₄ b₅ w₅ : List ℕ} → Turns d b₃ w₃ l₃ e b₄ w₄ l₄ (out_of_line p) → Stored b₄ w₄ p emptied b₅ w₅ → Turns d b w l e b₅ w₅ l₄ (end_at p n)
        ended {e} x v =
            let m = shown d b w l in
            let y = wrote x.whole end_place v in
            record {
              whole = y.whole;
              filled = x.filled;
              seen = y.seen e.last.0 e.running.0
                  ∙ ap (put p vacant) (x.seen ∙ ap (out_of_line p) (told_seen ∙ ap (let_go (listening n) all_places) (let_seen ∙ ap (let_go (awaiting n) all_places) back_seen)))
                  ∙ sym (written_at m k.sound p n k.lives k.number);
            }
