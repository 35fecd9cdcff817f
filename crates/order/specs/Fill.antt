-- One place is filled or emptied: its number changes too, from and to one that nobody has for a partner.
use Rattle.std.specs.Prelude.{ℕ, ◌≤◌, ◌<◌, ◌≡◌, refl, ◌≢◌, List, false, ◌&&◌, eqb}
use Rattle.std.proofs.Common.{sym, ap, ◌∙◌, arith, length-set, ne_eqb}
use Rattle.std.proofs.Math.Decide.{ℕ_discrete}
use Rattle.rules.specs.Values.{nobody}
use Rattle.rules.specs.Model.{places, last_number, Empty, Ready, Sending, Awaiting, Receiving, Thread, Model, ready, thread, lives_at}
use Rattle.rules.specs.Consistent.{belongs, ListensToLive}
use Rattle.order.specs.ByLine.{by_line, at_device, at_inbox}
use Rattle.order.specs.Sound.{Fit, Live, Sound}
use Rattle.order.specs.Lines.{Shift}
use Rattle.order.specs.Moves.{anew, beside, here, Waits, waits_then, Step, RunsThen}

-- all but the place p is as a Step leaves it, and p holds t
pub record Swap (m : Model) (p : ℕ) (t : Thread) (k : Model) : Type 0 where
  pub sound : Sound k
  pub listens : ListensToLive m → ListensToLive k
  pub own : thread k p ≡ t
  pub lives : (s : ℕ) → s ≢ p → lives_at k s ≡ lives_at m s
  pub numbers : (s : ℕ) → s ≢ p → (thread k s).number ≡ (thread m s).number
  pub parents : (s : ℕ) → s ≢ p → (thread k s).parent ≡ (thread m s).parent
  pub waits : (s : ℕ) → s ≢ p → (thread m s).standing ≡ Ready → Waits m k s

pub after_step : (m a : Model) (p : ℕ) (t : Thread) (b : Model) → Step m a → Swap a p t b → Swap m p t b
after_step m a p t b F G = record {
  sound = G.sound;
  listens = λ L. G.listens (F.kept.listens L);
  own = G.own;
  lives = λ s n. G.lives s n ∙ F.kept.lives s;
  numbers = λ s n. G.numbers s n ∙ F.kept.numbers s;
  parents = λ s n. G.parents s n ∙ F.kept.parents s;
  waits = λ s n e. let v = F.waits s e in waits_then m a b s v (G.waits s n (rw v.0 e));
}

pub record Change (m : Model) (p : ℕ) (t : Thread) (y x : ℕ) (ls : List (List ℕ)) : Type 0 where
  pub place : p < places
  pub last : y ≤ last_number
  pub fit : Fit t
  pub turn : RunsThen m p t x
  pub shift : Shift m p t ls
  pub standing : (t.standing ≢ Sending) × (t.standing ≢ Awaiting) × (t.standing ≢ Receiving)
  pub own : (s : ℕ) → s ≢ p → t.standing ≢ Empty → t.number ≢ (thread m s).number
  pub others : (s : ℕ) → s ≢ p → (thread m s).standing ≢ Empty → (thread m s).number ≢ t.number
  pub alien : (s : ℕ) → s ≢ p → Sending ≤ (thread m s).standing → (thread m s).standing ≤ Awaiting
      → ((thread m s).partner ≢ (thread m p).number) × ((thread m s).partner ≢ t.number)
  pub unnamed : (s : ℕ) → s ≢ p → (thread m s).standing ≡ Receiving → (thread m s).partner ≢ nobody → (thread m s).partner ≢ (thread m p).number

module _ (m : Model) (p : ℕ) (t : Thread) (y x : ℕ) (ls : List (List ℕ)) (S : Sound m) (M : Change m p t y x ls) where
  abbrev k : Model
  k = anew m y p t x ls

  same : thread k p ≡ t
  same = here m S p t M.place

  other : (s : ℕ) → s ≢ p → thread k s ≡ thread m s
  other s n = beside m p s t n

  belonging_own : (q : ℕ) → belongs k t q ≡ belongs m t q
  belonging_own =
      by_line (λ q. belongs k t q ≡ belongs m t q) refl refl
      (λ i h. at_device k t i h ∙ sym (at_device m t i h))
      (λ r.
      let e : (n : ℕ) → eqb t.standing Sending && eqb t.partner n ≡ false = λ n. rw (ne_eqb t.standing Sending M.standing.0) in
      at_inbox k t r ∙ e (thread k r).number ∙ sym (at_inbox m t r ∙ e (thread m r).number))

  belonging_other : (s : ℕ) → s ≢ p → (q : ℕ) → belongs k (thread m s) q ≡ belongs m (thread m s) q
  belonging_other s n =
      by_line (λ q. belongs k (thread m s) q ≡ belongs m (thread m s) q) refl refl
      (λ i h. at_device k (thread m s) i h ∙ sym (at_device m (thread m s) i h))
      (λ r. at_inbox k (thread m s) r ∙ partners r ∙ sym (at_inbox m (thread m s) r))
    where
      partners : (r : ℕ) → eqb (thread m s).standing Sending && eqb (thread m s).partner (thread k r).number ≡ eqb (thread m s).standing Sending && eqb (thread m s).partner (thread m r).number
      partners r = elim (ℕ_discrete (thread m s).standing Sending) [
        | no z ↦ rw (ne_eqb (thread m s).standing Sending z)
        | yes e ↦ elim (ℕ_discrete r p) [
          | no z ↦ rw (other r z)
          | yes f ↦ let a = M.alien s n (omega arith) (omega arith) in
              rw (f, same, ne_eqb (thread m s).partner t.number a.1, ne_eqb (thread m s).partner (thread m p).number a.0)
        ]
      ]

  live_after : (s : ℕ) → s ≢ p → Sending ≤ (thread m s).standing → (thread m s).standing ≤ Awaiting → Live k (thread m s).partner
  live_after s n i j =
      let l = S.served s i j in
      let z : l.0 ≢ p = λ e. (M.alien s n i j).0 (sym l.2 ∙ ap (λ (r : ℕ). (thread m r).number) e) in
      (l.0, rw (other l.0 z) l.1, rw (other l.0 z) l.2)

  sound_after : Sound k
  sound_after = record {
    threads = length-set m.threads p t ∙ S.threads;
    lines = M.shift.lines;
    last = M.last;
    fits = λ s. elim (ℕ_discrete s p) [ yes e ↦ rw (e, same) M.fit | no n ↦ rw (other s n) (S.fits s) ];
    differ = λ s r. elim (ℕ_discrete s p) [
      | yes e ↦ elim (ℕ_discrete r p) [
        | yes f ↦ λ _ _. e ∙ sym f
        | no z ↦ rw (other r z, e, same) (λ h w. absurd (M.own r z h w))
      ]
      | no n ↦ rw (other s n) (elim (ℕ_discrete r p) [
        | yes f ↦ rw (f, same) (λ h w. absurd (M.others s n h w))
        | no z ↦ rw (other r z) (S.differ s r)
      ])
    ];
    alone = λ s. elim (ℕ_discrete s p) [ yes e ↦ rw (e, same) M.turn.own | no n ↦ rw (other s n) (M.turn.alone s n) ];
    busy = λ h. elim (ℕ_discrete x p) [ yes e ↦ rw (e, same) (M.turn.busy_own e) | no n ↦ rw (other x n) (M.turn.busy h n) ];
    served = λ s. elim (ℕ_discrete s p) [
      | yes e ↦ rw (e, same) (λ i j. absurd (let st = M.standing in omega arith))
      | no n ↦ rw (other s n) (live_after s n)
    ];
    deaf = λ r s. elim (ℕ_discrete s p) [
      | yes e ↦ rw (e, same) (λ i j. absurd (M.standing.0 i))
      | no n ↦ rw (other s n) (elim (ℕ_discrete r p) [
        | yes f ↦ rw (f, same) (λ i j. absurd ((M.alien s n (omega arith) (omega arith)).1 j))
        | no z ↦ rw (other r z) (S.deaf r s)
      ])
    ];
    stood = λ s q. elim (ℕ_discrete s p) [
      | yes e ↦ rw (e, same, belonging_own q) (M.shift.own q)
      | no n ↦ rw (other s n, belonging_other s n q) ((M.shift.spared q).others s n ∙ S.stood s q)
    ];
  }

  listens_after : ListensToLive m → ListensToLive k
  listens_after L s = elim (ℕ_discrete s p) [
    | yes e ↦ rw (e, same) (λ five _. absurd (M.standing.2 five))
    | no n ↦ rw (other s n) (λ five named.
        let l = L s five named in
        let z : l.0 ≢ p = λ e. M.unnamed s n five named (sym l.2 ∙ ap (λ (r : ℕ). (thread m r).number) e) in
        (l.0, rw (other l.0 z) l.1, rw (other l.0 z) l.2))
  ]

  pub changed : Swap m p t (anew m y p t x ls)
  changed = record {
    sound = sound_after;
    listens = listens_after;
    own = same;
    lives = λ s n. rw (other s n);
    numbers = λ s n. rw (other s n);
    parents = λ s n. rw (other s n);
    waits = λ s n e. (other s n, (M.shift.spared ready).order s n (rw (S.stood s ready, e) (omega arith)));
  }
