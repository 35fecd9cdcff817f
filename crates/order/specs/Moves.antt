-- One live place moves: its thread, the lines and who runs change, and nothing else. Every event is a chain of such moves,
-- each from a Sound nucleus to a Sound nucleus.
use Rattle.std.specs.Prelude.{ℕ, ◌≤◌, ◌<◌, ◌≡◌, refl, ◌≢◌, List, false, ◌&&◌, get_or, set, eqb}
use Rattle.std.proofs.Common.{sym, ap, ◌∙◌, arith, length-set, get_or-set_same, get_or-set_other, ne_eqb}
use Rattle.std.proofs.Math.Decide.{ℕ_discrete}
use Rattle.lists.specs.Lists.{none}
use Rattle.rules.specs.Values.{nobody}
use Rattle.rules.specs.Model.{places, Empty, Running, Ready, Sending, Awaiting, Receiving, Thread, vacant, Model, ready, thread, line, lives_at}
use Rattle.rules.specs.Rules.{hears}
use Rattle.rules.specs.Consistent.{belongs, ListensToLive}
use Rattle.order.specs.ByLine.{by_line, at_device, at_inbox}
use Rattle.order.specs.Sound.{Fit, Live, Sound, small}
use Rattle.order.specs.Ahead.{ahead}
use Rattle.order.specs.Lines.{Shift}

-- y is the last number given, the place p holds t, x runs, and the lines are ls
abbrev pub anew : Model → ℕ → ℕ → Thread → ℕ → List (List ℕ) → Model
anew m y p t x ls = record { last = y; running = x; threads = set m.threads p t; lines = ls }

-- the thread of another place is as it was
pub beside : (m : Model) (p s : ℕ) (t : Thread) → s ≢ p → get_or (set m.threads p t) s vacant ≡ thread m s
beside m p s t n = get_or-set_other m.threads p s t vacant n

pub here : (m : Model) → Sound m → (p : ℕ) (t : Thread) → p < places → get_or (set m.threads p t) p vacant ≡ t
here m S p t h = get_or-set_same m.threads p t vacant (omega (arith, S.threads))

-- ---- what a move leaves as it was

-- nobody comes or goes, and nobody begins to listen to the dead
pub record Kept (m k : Model) : Type 0 where
  pub sound : Sound k
  pub listens : ListensToLive m → ListensToLive k
  pub lives : (s : ℕ) → lives_at k s ≡ lives_at m s
  pub numbers : (s : ℕ) → (thread k s).number ≡ (thread m s).number
  pub parents : (s : ℕ) → (thread k s).parent ≡ (thread m s).parent

-- the place s holds what it held, and has no more ahead of it in ready
abbrev pub Waits : Model → Model → ℕ → Type 0
Waits m k s = (thread k s ≡ thread m s) × (ahead s (line k ready) ≤ ahead s (line m ready))

-- and whoever is ready goes on waiting for its turn, no further back
pub record Step (m k : Model) : Type 0 where
  pub kept : Kept m k
  pub waits : (s : ℕ) → (thread m s).standing ≡ Ready → Waits m k s

pub still : (m : Model) → Sound m → Step m m
still m S =
    record { kept = record { sound = S; listens = λ L. L; lives = λ s. refl; numbers = λ s. refl; parents = λ s. refl }; waits = λ s e. (refl, omega arith) }

pub kept_then : (m a b : Model) → Kept m a → Kept a b → Kept m b
kept_then m a b F G = record {
  sound = G.sound;
  listens = λ L. G.listens (F.listens L);
  lives = λ s. G.lives s ∙ F.lives s;
  numbers = λ s. G.numbers s ∙ F.numbers s;
  parents = λ s. G.parents s ∙ F.parents s;
}

pub waits_then : (m a b : Model) (s : ℕ) → Waits m a s → Waits a b s → Waits m b s
waits_then m a b s v w = (w.0 ∙ v.0, let i = v.1 in let j = w.1 in omega arith)

pub then : (m a b : Model) → Step m a → Step a b → Step m b
then m a b F G = record {
  kept = kept_then m a b F.kept G.kept;
  waits = λ s e. let v = F.waits s e in waits_then m a b s v (G.waits s (rw v.0 e));
}

-- ---- a move

-- who runs afterwards
pub record RunsThen (m : Model) (p : ℕ) (t : Thread) (x : ℕ) : Type 0 where
  pub alone : (s : ℕ) → s ≢ p → (thread m s).standing ≡ Running → x ≡ s
  pub own : t.standing ≡ Running → x ≡ p
  pub busy : x ≢ none → x ≢ p → (thread m x).standing ≡ Running
  pub busy_own : x ≡ p → t.standing ≡ Running

pub record Move (m : Model) (p : ℕ) (t : Thread) (x : ℕ) (ls : List (List ℕ)) : Type 0 where
  pub lived : (thread m p).standing ≢ Empty
  pub lives : t.standing ≢ Empty
  pub named : t.number ≡ (thread m p).number
  pub raised : t.parent ≡ (thread m p).parent
  pub fit : Fit t
  pub turn : RunsThen m p t x
  pub shift : Shift m p t ls
  pub served : Sending ≤ t.standing → t.standing ≤ Awaiting → Live m t.partner
  pub hearing : (s : ℕ) → (thread m s).standing ≡ Sending → (thread m s).partner ≡ (thread m p).number → hears t (thread m s).number ≡ false
  pub heard : (r : ℕ) → t.standing ≡ Sending → t.partner ≡ (thread m r).number → hears (thread m r) t.number ≡ false
  pub listens : t.standing ≡ Receiving → t.partner ≢ nobody → Live m t.partner

module _ (m : Model) (p : ℕ) (t : Thread) (x : ℕ) (ls : List (List ℕ)) (S : Sound m) (M : Move m p t x ls) where
  abbrev k : Model
  k = anew m m.last p t x ls

  same : thread k p ≡ t
  same = here m S p t (small m S p M.lived)

  other : (s : ℕ) → s ≢ p → thread k s ≡ thread m s
  other s n = beside m p s t n

  numbered : (s : ℕ) → (thread k s).number ≡ (thread m s).number
  numbered s = elim (ℕ_discrete s p) [ yes e ↦ rw (e, same) M.named | no n ↦ rw (other s n) ]

  parented : (s : ℕ) → (thread k s).parent ≡ (thread m s).parent
  parented s = elim (ℕ_discrete s p) [ yes e ↦ rw (e, same) M.raised | no n ↦ rw (other s n) ]

  living : (s : ℕ) → lives_at k s ≡ lives_at m s
  living s = elim (ℕ_discrete s p) [ yes e ↦ rw (e, same, ne_eqb _ Empty M.lives, ne_eqb _ Empty M.lived) | no n ↦ rw (other s n) ]

  lived_on : (s : ℕ) → (thread m s).standing ≢ Empty → (thread k s).standing ≢ Empty
  lived_on s h = elim (ℕ_discrete s p) [ yes e ↦ rw (e, same) M.lives | no n ↦ rw (other s n) h ]

  lived_before : (s : ℕ) → (thread k s).standing ≢ Empty → (thread m s).standing ≢ Empty
  lived_before s h = elim (ℕ_discrete s p) [ yes e ↦ rw e M.lived | no n ↦ rw (other s n) at h ]

  belonging : (u : Thread) (q : ℕ) → belongs k u q ≡ belongs m u q
  belonging u =
      by_line (λ q. belongs k u q ≡ belongs m u q) refl refl
      (λ i h. at_device k u i h ∙ sym (at_device m u i h))
      (λ r. at_inbox k u r ∙ ap (λ (n : ℕ). eqb u.standing Sending && eqb u.partner n) (numbered r) ∙ sym (at_inbox m u r))

  live_after : (n : ℕ) → Live m n → Live k n
  live_after n l = (l.0, lived_on l.0 l.1, numbered l.0 ∙ l.2)

  sound_after : Sound k
  sound_after = record {
    threads = length-set m.threads p t ∙ S.threads;
    lines = M.shift.lines;
    last = S.last;
    fits = λ s. elim (ℕ_discrete s p) [ yes e ↦ rw (e, same) M.fit | no n ↦ rw (other s n) (S.fits s) ];
    differ = λ s r h e. S.differ s r (lived_before s h) (sym (numbered s) ∙ e ∙ numbered r);
    alone = λ s. elim (ℕ_discrete s p) [ yes e ↦ rw (e, same) M.turn.own | no n ↦ rw (other s n) (M.turn.alone s n) ];
    busy = λ h. elim (ℕ_discrete x p) [ yes e ↦ rw (e, same) (M.turn.busy_own e) | no n ↦ rw (other x n) (M.turn.busy h n) ];
    served = λ s. elim (ℕ_discrete s p) [
      | yes e ↦ rw (e, same) (λ a b. live_after t.partner (M.served a b))
      | no n ↦ rw (other s n) (λ a b. live_after (thread m s).partner (S.served s a b))
    ];
    deaf = λ r s. elim (ℕ_discrete r p) [
      | yes e ↦ rw (e, same) (elim (ℕ_discrete s p) [
        | yes f ↦ rw (f, same) (λ a b. absurd (M.fit.apart M.lives (omega arith) b))
        | no n ↦ rw (other s n) (λ a b. M.hearing s a (b ∙ M.named))
      ])
      | no k ↦ rw (other r k) (elim (ℕ_discrete s p) [
        | yes f ↦ rw (f, same) (M.heard r)
        | no n ↦ rw (other s n) (S.deaf r s)
      ])
    ];
    stood = λ s q. elim (ℕ_discrete s p) [
      | yes e ↦ rw (e, same, belonging t q) (M.shift.own q)
      | no n ↦ rw (other s n, belonging (thread m s) q) ((M.shift.spared q).others s n ∙ S.stood s q)
    ];
  }

  listens_after : ListensToLive m → ListensToLive k
  listens_after L s = elim (ℕ_discrete s p) [
    | yes e ↦ rw (e, same) (λ five n. live_after t.partner (M.listens five n))
    | no z ↦ rw (other s z) (λ five n. live_after (thread m s).partner (L s five n))
  ]

  pub moved : Kept m (anew m m.last p t x ls)
  moved = record { sound = sound_after; listens = listens_after; lives = living; numbers = numbered; parents = parented }

  -- the one that moves was not ready itself
  pub stepped : (thread m p).standing ≢ Ready → Step m (anew m m.last p t x ls)
  stepped h = record {
    kept = moved;
    waits = λ s e.
        let n : s ≢ p = λ z. h (ap (λ (r : ℕ). (thread m r).standing) (sym z) ∙ e) in
        (other s n, (M.shift.spared ready).order s n (rw (S.stood s ready, e) (omega arith)));
  }

-- ---- the three ways the turn changes

module _ (m : Model) (S : Sound m) (p : ℕ) (t : Thread) where
  pub stopping : (thread m p).standing ≡ Running → t.standing ≢ Running → RunsThen m p t none
  stopping e n = record {
    alone = λ s k f. absurd (k (sym (S.alone s f) ∙ S.alone p e));
    own = λ f. absurd (n f);
    busy = λ f. absurd (f refl);
    busy_own = λ f. absurd (let h : p < places = small m S p (λ z. let y : ◌≡◌ {A = ℕ} 1 0 = sym e ∙ z in omega arith) in omega arith);
  }

  pub starting : m.running ≡ none → (thread m p).standing ≢ Empty → t.standing ≡ Running → RunsThen m p t p
  starting e n f = record {
    alone = λ s k g. absurd (let h : s < places = small m S s (λ z. let y : ◌≡◌ {A = ℕ} 1 0 = sym g ∙ z in omega arith) in let i = S.alone s g in omega arith);
    own = λ g. refl;
    busy = λ g k. absurd (k refl);
    busy_own = λ g. f;
  }

  pub aside : (thread m p).standing ≢ Running → p < places → t.standing ≢ Running → RunsThen m p t m.running
  aside n h k = record {
    alone = λ s i f. S.alone s f;
    own = λ f. absurd (k f);
    busy = λ f g. S.busy f;
    busy_own = λ e. absurd (n (let i : (thread m m.running).standing ≡ Running = S.busy (omega arith) in rw e at i));
  }
