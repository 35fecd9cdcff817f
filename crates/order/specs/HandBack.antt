-- Event 5, end, the hand-backs: those in the inbox of the one that ends, then those awaiting its reply, have their word back, then those receiving from it
-- are told, and all are ready.
-- The nucleus is Sound after each one of them, while the one that ends still stands in its line.
use Rattle.std.specs.Prelude.{ℕ, ◌≤◌, ◌<◌, ◌≡◌, refl, ◌≢◌, List, [], ◌∷◌, Bool, true, false, cond, ◌&&◌, get_or, set, eqb}
use Rattle.std.proofs.Common.{sym, ap, ◌∙◌, arith, get_or-set_other, eqb-true}
use Rattle.std.proofs.Math.Decide.{ℕ_discrete}
use Rattle.lists.specs.Lists.{count}
use Rattle.lists.specs.Laws.{by_test, never, and_left, and_right}
use Rattle.lists.specs.Counts.{count_self, count_past}
use Rattle.rules.specs.Values.{nobody}
use Rattle.rules.specs.Model.{places, last_number, Empty, Ready, Awaiting, Receiving, AtDevice, Thread, vacant, Model, ready, inbox, thread, line}
use Rattle.rules.specs.Rules.{relined, woken, handed_back, Group, let_go, awaiting, listening}
use Rattle.order.specs.Sound.{Fit, Sound, small, sending, sent}
use Rattle.order.specs.Belongs.{in_ready, in_inbox}
use Rattle.order.specs.Lines.{drops_front, passes, tail_line}
use Rattle.order.specs.Moves.{beside, here, Step, stepped, still, then, aside}
use Rattle.order.specs.Standings.{become, AllowedAnswer, plain, wakes, told_by}

-- ---- those in the inbox of r, front to back

-- the first of them
pub back : (m : Model) → Sound m → (n r p : ℕ) (l : List ℕ) → n ≤ last_number → (thread m r).standing ≢ Empty → line m (inbox r) ≡ p ∷ l
    → Step m (woken p 16 n (thread m p).word (relined (inbox r) l m)) × (r ≢ p)
back m S n r p l low live e =
    let h : 1 ≤ count p (line m (inbox r)) = rw (e, count_self p l) (omega arith) in
    let st = sending m S r p h in
    let lived : (thread m p).standing ≢ Empty = omega arith in
    let i : r < places = small m S r live in
    let t = become m p Ready nobody 0 16 n (thread m p).word in (
      stepped m p t m.running _ S (plain m S p lived Ready 16 n (thread m p).word m.running _ (omega arith) refl (told_by 16 n (thread m p).word low refl (S.fits p).words.0)
          (aside m S p t (omega arith) (small m S p lived) (omega arith))
          (passes m S p t (inbox r) (omega arith) l (drops_front m p (inbox r) l e) (in_inbox m (thread m p) S r live st (sent m S r p h)) ready (omega arith) (in_ready m t refl)))
          (omega arith),
      λ z. (S.fits p).apart lived (omega arith) (sent m S r p h ∙ ap (λ (k : ℕ). (thread m k).number) z),
    )

-- k is m after all of them
pub record Handed (m : Model) (r : ℕ) (k : Model) : Type 0 where
  pub step : Step m k
  pub kept : thread k r ≡ thread m r
  pub empty : line k (inbox r) ≡ []

pub hands : (l : List ℕ) (m : Model) → Sound m → (n r : ℕ) → n ≤ last_number → (thread m r).standing ≢ Empty → line m (inbox r) ≡ l → Handed m r (handed_back n r l m)
hands [] m S n r low live e = record { step = still m S; kept = refl; empty = e }
hands (p ∷ l) m S n r low live e =
    let B = back m S n r p l low live e in
    let m₁ = woken p 16 n (thread m p).word (relined (inbox r) l m) in
    let i : r < places = small m S r live in
    let z : thread m₁ r ≡ thread m r = beside m p r (become m p Ready nobody 0 16 n (thread m p).word) B.1 in
    let H = hands l m₁ B.0.kept.sound n r low (rw z live) (tail_line m S p (inbox r) ready l (omega arith) (omega arith)) in
    record { step = then m m₁ (handed_back n r l m₁) B.0 H.step; kept = H.kept ∙ z; empty = H.empty }

-- ---- those of the places l that a group picks

-- whom the group picks waits in no line, and what it is told is an answer
pub record Fair (g : Group) : Type 0 where
  pub loose : (t : Thread) → Fit t → g.picks t ≡ true → (Awaiting ≤ t.standing) × (t.standing ≤ Receiving)
  pub answer : (t : Thread) → Fit t → g.picks t ≡ true → AllowedAnswer 16 (g.who t) (g.word t)

-- one of them, if it is picked
abbrev pub let_step : Group → ℕ → Model → Model
let_step g p m = cond (g.picks (thread m p)) (woken p 16 (g.who (thread m p)) (g.word (thread m p)) m) m

-- k is m after those of l
pub record Let (m : Model) (g : Group) (l : List ℕ) (k : Model) : Type 0 where
  pub step : Step m k
  pub kept : (s : ℕ) → (thread k s).standing ≢ Ready → thread k s ≡ thread m s
  pub past : (s : ℕ) → g.picks (thread m s) ≡ false → thread k s ≡ thread m s
  pub done : (s : ℕ) → g.picks (thread k s) ≡ true → count s l ≡ 0
  pub others : (q : ℕ) → q ≢ ready → line k q ≡ line m q

pub let_one : (m : Model) → Sound m → (g : Group) → Fair g → (p : ℕ) → Let m g (p ∷ []) (let_step g p m)
let_one m S g F p = go (g.picks (thread m p)) refl
  where
    go : (b : Bool) → g.picks (thread m p) ≡ b → Let m g (p ∷ []) (cond b (woken p 16 (g.who (thread m p)) (g.word (thread m p)) m) m)
    go true e =
        let st = F.loose (thread m p) (S.fits p) e in
        let lived : (thread m p).standing ≢ Empty = λ z. omega (arith, st.0) in
        let t = become m p Ready nobody 0 16 (g.who (thread m p)) (g.word (thread m p)) in
        let same : get_or (set m.threads p t) p vacant ≡ t = here m S p t (small m S p lived) in
        let W = wakes m S p lived 16 _ _ (F.answer (thread m p) (S.fits p) e) st.0 st.1 in
        record {
          step = W;
          kept = λ s. elim (ℕ_discrete s p) [ yes z ↦ rw (z, same) (λ k. absurd (k refl)) | no k ↦ λ _. beside m p s t k ];
          past = λ s i. beside m p s t (λ z. never e (rw z at i));
          done = λ s. elim (ℕ_discrete s p) [
            | yes z ↦ rw z (λ i. let v = F.loose _ (W.kept.sound.fits p) i in absurd (let w : Awaiting ≤ Ready = rw same at v.0 in omega arith))
            | no k ↦ λ _. count_past s p [] k
          ];
          others = λ q n. get_or-set_other m.lines ready q _ [] n;
        }
    go false e = record {
      step = still m S;
      kept = λ s _. refl;
      past = λ s _. refl;
      done = λ s i. elim (ℕ_discrete s p) [ yes z ↦ never (rw z at i) e | no k ↦ count_past s p [] k ];
      others = λ q _. refl;
    }

pub lets : (l : List ℕ) (m : Model) → Sound m → (g : Group) → Fair g → Let m g l (let_go g l m)
lets [] m S g F = record { step = still m S; kept = λ s _. refl; past = λ s _. refl; done = λ s _. refl; others = λ q _. refl }
lets (p ∷ l) m S g F =
    let m₁ = let_step g p m in
    let A = let_one m S g F p in
    let B = lets l m₁ A.step.kept.sound g F in
    record {
      step = then m m₁ (let_go g l m₁) A.step B.step;
      kept = λ s k. B.kept s k ∙ A.kept s (rw (B.kept s k) at k);
      past = λ s i. B.past s (rw (A.past s i) i) ∙ A.past s i;
      done = λ s i.
          let v = F.loose _ (B.step.kept.sound.fits s) i in
          let e = B.kept s (λ z. omega (arith, v.0)) in
          let x : count s l ≡ 0 = B.done s i in
          let y : count s (p ∷ []) ≡ 0 = A.done s (rw e at i) in
          omega arith;
      others = λ q n. B.others q n ∙ A.others q n;
    }

-- ---- the two groups of an end: those who await its reply, and those who receive from it

-- such a test, of a standing and a partner
module _ (st n : ℕ) (t : Thread) (e : eqb t.standing st && eqb t.partner n ≡ true) where
  pub picked_standing : t.standing ≡ st
  picked_standing = eqb-true _ _ (and_left _ (eqb t.partner n) e)

  pub picked_partner : t.partner ≡ n
  picked_partner = eqb-true _ _ (and_right (eqb t.standing st) _ e)

module _ (n : ℕ) (low : n ≤ last_number) where
  pub awaiting_fair : Fair (awaiting n)
  awaiting_fair = record {
    loose = λ t _ e. let z = picked_standing Awaiting n t e in (omega arith, omega arith);
    answer = λ t f _. told_by 16 n t.word low refl f.words.0;
  }

  pub listening_fair : Fair (listening n)
  listening_fair = record {
    loose = λ t _ e. let z = picked_standing Receiving n t e in (omega arith, omega arith);
    answer = λ t _ _. told_by 16 n 0 low refl (omega arith);
  }

-- ---- all three, for the thread n at p: it stays as it is

module _ (m : Model) (S : Sound m) (n p : ℕ) (live : (thread m p).standing ≢ Empty) (number : (thread m p).number ≡ n) where
  low : n ≤ last_number
  low = rw number at ((S.fits p).number live)

  -- its partner is another, or is no thread
  not_picked : (st : ℕ) → st ≢ AtDevice → eqb (thread m p).standing st && eqb (thread m p).partner n ≡ false
  not_picked st k = by_test (eqb (thread m p).standing st && eqb (thread m p).partner n)
      (λ e. let z = picked_standing st n (thread m p) e in absurd ((S.fits p).apart live (λ y. k (sym z ∙ y)) (picked_partner st n (thread m p) e ∙ sym number)))
      (λ e. e)

  pub handed_all : (k : List ℕ) → Step m (let_go (listening n) k (let_go (awaiting n) k (handed_back n p (line m (inbox p)) m)))
      × (thread (let_go (listening n) k (let_go (awaiting n) k (handed_back n p (line m (inbox p)) m))) p ≡ thread m p)
  handed_all k =
      let m₁ = handed_back n p (line m (inbox p)) m in
      let m₂ = let_go (awaiting n) k m₁ in
      let H = hands (line m (inbox p)) m S n p low live refl in
      let A = lets k m₁ H.step.kept.sound (awaiting n) (awaiting_fair n low) in
      let L = lets k m₂ A.step.kept.sound (listening n) (listening_fair n low) in
      let a : thread m₂ p ≡ thread m p = A.past p (rw H.kept (not_picked Awaiting (omega arith))) ∙ H.kept in
      (then m m₁ (let_go (listening n) k m₂) H.step (then m₁ m₂ (let_go (listening n) k m₂) A.step L.step), L.past p (rw a (not_picked Receiving (omega arith))) ∙ a)
