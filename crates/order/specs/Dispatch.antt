-- After any accepted event, if nobody runs and ready is not empty, its front runs: this ends every event, and makes it consistent.
use Rattle.std.specs.Prelude.{ℕ, ◌<◌, ◌≡◌, refl, ◌≢◌, List, [], ◌∷◌, Bool, true, false, cond}
use Rattle.std.proofs.Common.{ap, ◌∙◌, arith, get_or-set_other, eqb-true}
use Rattle.std.proofs.lemmas.Bool.{eqb-false}
use Rattle.lists.specs.Lists.{none}
use Rattle.lists.specs.Laws.{by_test}
use Rattle.rules.specs.Values.{nobody}
use Rattle.rules.specs.Model.{places, Empty, Running, Ready, Model, ready, thread, line}
use Rattle.rules.specs.Rules.{idle, stands, starts, dispatched}
use Rattle.rules.specs.Consistent.{ListensToLive, Consistent}
use Rattle.order.specs.Sound.{Sound, Kin, small, front_belongs, whole}
use Rattle.order.specs.Belongs.{in_none, in_ready}
use Rattle.order.specs.Lines.{drops_front, leaves}
use Rattle.order.specs.Moves.{beside, Kept, moved, starting, still}
use Rattle.order.specs.Standings.{plain, as_told}
use Rattle.order.specs.KinKept.{kin_kept}

-- if none runs, the ready queue is empty
abbrev pub Settled : Model → Type 0
Settled m = m.running ≡ none → line m ready ≡ []

module _ (m : Model) (S : Sound m) (rest : m.running ≡ none) where
  begin : (p : ℕ) (l : List ℕ) → line m ready ≡ p ∷ l → Kept m (starts (p ∷ l) m)
  begin p l e =
      let two : (thread m p).standing ≡ Ready = eqb-true _ _ (front_belongs m S p ready l e) in
      let lived : (thread m p).standing ≢ Empty = omega arith in
      let t = stands Running nobody 0 (thread m p) in
      moved m p t p _ S (plain m S p lived Running _ _ _ p _ (omega arith) refl (as_told m S p)
      (starting m S p t rest lived refl)
      (leaves m S p t ready (omega arith) l (drops_front m p ready l e) (in_ready m (thread m p) two) (in_none m t (omega arith))))

  begins : (l : List ℕ) → line m ready ≡ l → Kept m (starts l m) × Settled (starts l m)
  begins [] e = ((still m S).kept, λ _. e)
  begins (p ∷ l) e =
      let two : (thread m p).standing ≡ Ready = eqb-true _ _ (front_belongs m S p ready l e) in
      let h : p < places = small m S p (omega arith) in
      (begin p l e, λ f. absurd (omega arith))

both : (m : Model) → Sound m → Kept m (dispatched m) × Settled (dispatched m)
both m S = go (idle m) refl
  where
    go : (b : Bool) → idle m ≡ b → Kept m (cond b (starts (line m ready) m) m) × Settled (cond b (starts (line m ready) m) m)
    go true e = begins m S (eqb-true _ _ e) (line m ready) refl
    go false e = ((still m S).kept, λ f. absurd (eqb-false _ _ e f))

pub dispatch_kept : (m : Model) → Sound m → Kept m (dispatched m)
dispatch_kept m S = (both m S).0

pub dispatch : (m : Model) → Sound m → Kin m → ListensToLive m → Consistent (dispatched m)
dispatch m S K L = whole (dispatched m) (both m S).0.sound (both m S).1 (kin_kept m (dispatched m) (both m S).0 K) ((both m S).0.listens L)

-- whoever was not ready stays as it is, and so does every other line
module _ (m : Model) where
  start_others : (l : List ℕ) → Sound m → line m ready ≡ l → (s : ℕ) → (thread m s).standing ≢ Ready → thread (starts l m) s ≡ thread m s
  start_others [] S e s n = refl
  start_others (p ∷ l) S e s n = beside m p s _ (λ z. n (ap (λ (r : ℕ). (thread m r).standing) z ∙ eqb-true _ _ (front_belongs m S p ready l e)))

  pub dispatch_others : Sound m → (s : ℕ) → (thread m s).standing ≢ Ready → thread (dispatched m) s ≡ thread m s
  dispatch_others S s n = by_test (idle m) (λ t. rw t (start_others (line m ready) S refl s n)) (λ t. rw t)

  start_lines : (l : List ℕ) (q : ℕ) → q ≢ ready → line (starts l m) q ≡ line m q
  start_lines [] q n = refl
  start_lines (p ∷ l) q n = get_or-set_other m.lines ready q l [] n

  pub dispatch_lines : (q : ℕ) → q ≢ ready → line (dispatched m) q ≡ line m q
  dispatch_lines q n = by_test (idle m) (λ t. rw t (start_lines (line m ready) q n)) (λ t. rw t)
