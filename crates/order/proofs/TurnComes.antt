-- Every turn comes: in a consistent nucleus a ready thread with k ahead of it runs by the (k + 1)th slice end that acts, or is ended first,
-- whatever events come between.
use Rattle.std.specs.Prelude.{ℕ, suc, ◌+◌, ◌≤◌, ◌<◌, ◌≡◌, refl, ◌≢◌, ◌⊎◌, List, [], ◌∷◌, Bool, true, false, cond, not, eqb}
use Rattle.std.proofs.Common.{sym, ap, ◌∙◌, inl, inr, ⊎_elim, arith, get_or-set_same, eqb-true, eq-eqb, ne_eqb}
use Rattle.std.proofs.Math.Decide.{ℕ_discrete}
use Rattle.std.proofs.lemmas.Bool.{eqb-false}
use Rattle.lists.specs.Lists.{none, count}
use Rattle.lists.specs.Laws.{by_test}
use Rattle.rules.specs.Values.{nobody}
use Rattle.rules.specs.Model.{places, Empty, Running, Model, ready, thread, line}
use Rattle.rules.specs.Rules.{place_of, idle, stands, starts, dispatched, in_use, not_live, act, refusal, next}
use Rattle.rules.specs.Consistent.{Fits, Consistent}
use Rattle.rules.specs.declared.Number.{Number}
use Rattle.rules.specs.declared.Event.{Event}
use Rattle.rules.specs.declared.Event.TheVariants.{Create, Send, Receive, Reply, End, WaitClock, SliceEnd, Tick, WaitDevice, Interrupt}
use Rattle.order.specs.Sound.{Sound, small, sound, kin}
use Rattle.order.specs.Places.{elsewhere, place_only}
use Rattle.order.specs.Ahead.{ahead, ahead_past}
use Rattle.order.specs.Moves.{beside, here, Waits}
use Rattle.order.specs.Dispatch.{dispatch_kept}
use Rattle.order.specs.KinKept.{same_place}
use Rattle.order.specs.EndFamily.{Of}
use Rattle.order.specs.Accepted.{Accepted, accepted}
use Rattle.order.specs.Acts.{Done}
use Rattle.order.proofs.Acts.{does, acts_sound}
use Rattle.order.specs.Keeps.{AllFit}
use Rattle.order.proofs.Keeps.{keeps}
use Rattle.order.specs.TurnComes.{Queued, acting, slices, EndsOver, Ends, Come, Comes}

-- ---- one event

-- what an event worth c slice ends does to a thread that is queued behind k
data Fate (ends : Type 0) (m : Model) (p n k c : ℕ) : Type 0 where
  now : Come n ends m → Fate ends m p n k c
  later : (j : ℕ) → j + c ≤ k → Queued m p n j → Fate ends m p n k c

-- it goes on waiting while the event acts
queued_on : (m a : Model) (p n k : ℕ) → Queued m p n k → Waits m a p → Queued a p n k
queued_on m a p n k Q w = record {
  standing = rw w.0 Q.standing;
  number = rw w.0 Q.number;
  behind = let b = Q.behind in let i = w.1 in omega arith;
}

module _ (ends : Type 0) (m : Model) (S : Sound m) (p n k : ℕ) (Q : Queued m p n k) where
  is_place : p < places
  is_place = let st = Q.standing in small m S p (omega arith)

  -- the front of ready is started: it is the thread itself, or one ahead of it
  started : (l : List ℕ) → line m ready ≡ l → Fate ends (starts l m) p n k 1
  started [] e = absurd (let c : count p (line m ready) ≡ 1 = S.stood p ready ∙ rw Q.standing in let z : ◌≡◌ {A = ℕ} 0 1 = rw e at c in omega arith)
  started (x ∷ l) e = elim (ℕ_discrete x p) [
    | yes z ↦
        let i = is_place in
        let a : idle (starts (x ∷ l) m) ≡ false = ne_eqb x none (omega arith) in
        let b : (thread (starts (x ∷ l) m) x).number ≡ n = rw (z, here m S p (stands Running nobody 0 (thread m p)) is_place) Q.number in
        now (inl (rw (a, b)))
    | no z ↦
        let b : ahead p (x ∷ l) ≤ k = rw e at Q.behind in
        let c = ahead_past p x l z in
        let u = beside m x p (stands Running nobody 0 (thread m x)) (λ y. z (sym y)) in
        later (ahead p l) (omega arith) (record {
          standing = rw u Q.standing;
          number = rw u Q.number;
          behind = rw (get_or-set_same m.lines ready l [] (omega (arith, S.lines))) (omega arith);
        })
  ]

  -- a thread that has come one nearer has come no further back
  nearer : (a : Model) → Fate ends a p n k 1 → Fate ends a p n k 0
  nearer a (now s) = now s
  nearer a (later j h R) = later j (omega arith) R

  dispatch_idle : m.running ≡ none → Fate ends (dispatched m) p n k 1
  dispatch_idle e = rw (eq-eqb m.running none e) (started (line m ready) refl)

  dispatch_any : Fate ends (dispatched m) p n k 0
  dispatch_any = go (idle m) refl
    where
      go : (b : Bool) → idle m ≡ b → Fate ends (cond b (starts (line m ready) m) m) p n k 0
      go true e = nearer (starts (line m ready) m) (started (line m ready) refl)
      go false e = later k (omega arith) Q

module _ (m : Model) (S : Sound m) (p n k : ℕ) (Q : Queued m p n k) where
  -- it is of the family that is ended: nobody has its number then
  ended : (t : Number) → Done (End t) m → Of m (place_of m t.0) p × ((thread (act (End t) m) p).standing ≡ Empty) → EndsOver n (End t) m × (not_live (dispatched (act (End t) m)) n ≡ true)
  ended t D w =
      let a = act (End t) m in
      let st = Q.standing in
      let l : (thread m p).standing ≢ Empty = omega arith in
      let u : in_use (dispatched a) n ≡ false = ap (λ (q : ℕ). not (eqb q none)) (same_place (dispatch_kept a D.sound) n) ∙ ap (in_use a) (sym Q.number) ∙ D.number p l w.1 in
      let at : place_of m n ≡ p = ap (place_of m) (sym Q.number) ∙ place_only m S p l in
      ((t, refl, rw at w.0), rw u)

  -- or it goes on waiting
  waits : (e : Event) → Accepted e m → Done e m → Waits m (act e m) p ⊎ (EndsOver n e m × (not_live (dispatched (act e m)) n ≡ true))
  waits Create A D = inl (D.waits p (elsewhere m A p (let st = Q.standing in omega arith)) Q.standing)
  waits (Send d w) A D = inl (D.waits p Q.standing)
  waits (Receive x) A D = inl (D.waits p Q.standing)
  waits (Reply t w) A D = inl (D.waits p Q.standing)
  waits (End t) A D = ⊎_elim (λ w. inl w) (λ w. inr (ended t D w)) (D.waits p Q.standing)
  waits WaitClock A D = inl (D.waits p Q.standing)
  waits SliceEnd A D = inl (D.waits p Q.standing)
  waits Tick A D = inl (D.waits p Q.standing)
  waits (WaitDevice i) A D = inl (D.waits p Q.standing)
  waits (Interrupt s w) A D = inl (D.waits p Q.standing)

-- an event is worth nothing, or is a slice end that leaves nobody running
worth : (e : Event) (m : Model) → (acting e m ≡ 0) ⊎ ((refusal e m ≡ 0) × ((act e m).running ≡ none) × (acting e m ≡ 1))
worth Create m = inl refl
worth (Send d w) m = inl refl
worth (Receive n) m = inl refl
worth (Reply t w) m = inl refl
worth (End t) m = inl refl
worth WaitClock m = inl refl
worth SliceEnd m = by_test (idle m) (λ e. inl (rw e)) (λ e. inr (refl, rw e, rw e))
worth Tick m = inl refl
worth (WaitDevice i) m = inl refl
worth (Interrupt s w) m = inl refl

module _ (e : Event) (m : Model) (C : Consistent m) (f : Fits e) (p n k : ℕ) (Q : Queued m p n k) where
  acted : refusal e m ≡ 0 → Fate (Ends n (e ∷ []) m) (dispatched (act e m)) p n k (acting e m)
  acted z = go (waits m (sound m C) p n k Q e A D) (worth e m)
    where
      A : Accepted e m
      A = accepted e m z

      D : Done e m
      D = does e m (sound m C) (kin m C) f z

      S' : Sound (act e m)
      S' = acts_sound e m D

      go : Waits m (act e m) p ⊎ (EndsOver n e m × (not_live (dispatched (act e m)) n ≡ true))
          → (acting e m ≡ 0) ⊎ ((refusal e m ≡ 0) × ((act e m).running ≡ none) × (acting e m ≡ 1)) → Fate (Ends n (e ∷ []) m) (dispatched (act e m)) p n k (acting e m)
      go (inl w) (inl v) = rw v (dispatch_any (Ends n (e ∷ []) m) (act e m) S' p n k (queued_on m (act e m) p n k Q w))
      go (inl w) (inr v) = rw v.2 (dispatch_idle (Ends n (e ∷ []) m) (act e m) S' p n k (queued_on m (act e m) p n k Q w) v.1)
      go (inr d) (inl v) = now (inr ((d.0, z), d.1))
      go (inr d) (inr v) = now (inr ((d.0, z), d.1))

  refused : (refusal e m ≡ 0 → ⊥) → acting e m ≡ 0
  refused h = ⊎_elim (λ v. v) (λ v. absurd (h v.0)) (worth e m)

  fate : Fate (Ends n (e ∷ []) m) (next e m) p n k (acting e m)
  fate = go (eqb (refusal e m) 0) refl
    where
      go : (b : Bool) → eqb (refusal e m) 0 ≡ b → Fate (Ends n (e ∷ []) m) (cond b (dispatched (act e m)) m) p n k (acting e m)
      go true z = acted (eqb-true _ _ z)
      go false z = let c = refused (eqb-false _ _ z) in later k (omega arith) Q

-- ---- the theorem
pub turn_comes : (es : List Event) (m : Model) → Consistent m → AllFit es → (p n k : ℕ) → Queued m p n k → k < slices es m → Comes n k es m
turn_comes [] m C f p n k Q h = absurd (omega arith)
turn_comes (e ∷ es) m C f p n k Q h = go (fate e m C f.0 p n k Q) (turn_comes es (next e m) (keeps e m C f.0) f.1 p n)
  where
    go : Fate (Ends n (e ∷ []) m) (next e m) p n k (acting e m) → ((j : ℕ) → Queued (next e m) p n j → j < slices es (next e m) → Comes n j es (next e m)) → Comes n k (e ∷ es) m
    go (now s) rest = (0, omega arith, s)
    go (later j i R) rest = let w = rest j R (omega arith) in (suc w.0, let b = w.1 in omega arith, w.2)
