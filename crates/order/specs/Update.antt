-- The update load's rule (document 02, P2): it makes of what the old rules call consistent what the rules as they are do, changes nothing where that is so
-- already, and loses no send that is unanswered.
use Rattle.std.specs.Prelude.{ℕ, ◌≤◌, ◌≡◌, refl, ◌≢◌, List, [], ◌∷◌, true, false, not, ◌||◌, eqb}
use Rattle.std.proofs.Common.{sym, ap, ◌∙◌, arith, eqb-true, ne_eqb, leb-true}
use Rattle.std.proofs.Math.Bool.{or-false}
use Rattle.std.proofs.lemmas.Bool.{eqb-false, not-true, not-false}
use Rattle.lists.specs.Lists.{none, count}
use Rattle.lists.specs.Laws.{by_test, and_left, and_right}
use Rattle.rules.specs.Values.{nobody}
use Rattle.rules.specs.Model.{last_number, Empty, Sending, Awaiting, Receiving, Thread, Model, inbox, thread, line, all_places, lives_at}
use Rattle.rules.specs.Rules.{place_of, idle, in_use, not_live, dead_source, starts, dispatched, let_go, deserted, updated}
use Rattle.rules.specs.Consistent.{is_number, as_table, OldConsistent, ListensToLive, Consistent}
use Rattle.order.specs.Sound.{Fit, Live, Sound, small, old_sound, old_kin, sound}
use Rattle.order.specs.Places.{placed, live_placed, every_place, lives_at_lem, at_lives}
use Rattle.order.specs.Standings.{told_by}
use Rattle.order.specs.KinKept.{kin_kept}
use Rattle.order.specs.HandBack.{Fair, Let, lets}
use Rattle.order.specs.Dispatch.{dispatch, dispatch_kept, dispatch_others, dispatch_lines}

-- ---- whom it wakes

module _ (m : Model) (t : Thread) (e : (deserted m).picks t ≡ true) where
  pub deserted_standing : t.standing ≡ Receiving
  deserted_standing = eqb-true _ _ (and_left _ (dead_source m t.partner) e)

  dead : dead_source m t.partner ≡ true
  dead = and_right (eqb t.standing Receiving) _ e

  named : t.partner ≢ nobody
  named = eqb-false _ _ (not-true _ (and_left (not (eqb t.partner nobody)) (not_live m t.partner) dead))

  unlived : not_live m t.partner ≡ true
  unlived = and_right (not (eqb t.partner nobody)) _ dead

  number_of : Fit t → t.partner ≤ last_number
  number_of F =
      let five = deserted_standing in
      let r : as_table Receiving t.partner t.word ≡ true = rw five at (F.table (omega arith)) in
      let a : is_number t.partner || eqb t.partner nobody ≡ true = and_left (is_number t.partner || eqb t.partner nobody) _ r in
      leb-true _ _ (sym (or-false (is_number t.partner)) ∙ rw (ne_eqb t.partner nobody named) at a)

pub deserted_fair : (m : Model) → Fair (deserted m)
deserted_fair m = record {
  loose = λ t _ e. let z = deserted_standing m t e in (omega arith, omega arith);
  answer = λ t F e. told_by 16 t.partner 0 (number_of m t e F) refl (omega arith);
}

-- whoever sends or awaits a reply is none of them
pub not_deserted : (m : Model) (t : Thread) → t.standing ≢ Receiving → (deserted m).picks t ≡ false
not_deserted m t n = rw (ne_eqb t.standing Receiving n)

-- ---- the update

module _ (m : Model) (C : OldConsistent m) where
  abbrev woke : Model
  woke = let_go (deserted m) all_places m

  all_let : Let m (deserted m) all_places woke
  all_let = lets all_places m (old_sound m C) (deserted m) (deserted_fair m)

  S' : Sound woke
  S' = all_let.step.kept.sound

  live_on : (n : ℕ) → in_use m n ≡ true → Live woke n
  live_on n e =
      let K = all_let.step.kept in
      let at = placed m n (eqb-false _ _ (not-true _ e)) in
      (place_of m n, lives_at_lem woke (place_of m n) (K.lives (place_of m n) ∙ at_lives m (place_of m n) at.0), K.numbers (place_of m n) ∙ at.1)

  heard : ListensToLive woke
  heard s five k =
      by_test ((deserted m).picks (thread woke s))
      (λ e. absurd (let a : count s all_places ≡ 0 = all_let.done s e in let b : 1 ≤ count s all_places = every_place s (small woke S' s (omega arith)) in omega arith))
      (λ e. live_on (thread woke s).partner (not-false _ (rw (five, ne_eqb (thread woke s).partner nobody k) at e)))

  -- the rules as they are call it consistent
  pub updates : Consistent (updated m)
  updates = dispatch woke S' (kin_kept m woke all_let.step.kept (old_kin m C)) heard

  -- nobody comes or goes
  pub update_lives : (p : ℕ) → lives_at (updated m) p ≡ lives_at m p
  update_lives p = (dispatch_kept woke S').lives p ∙ all_let.step.kept.lives p

  -- every send that was unanswered is so still, in the same place with the same word
  pub unanswered : (p : ℕ) → Sending ≤ (thread m p).standing → (thread m p).standing ≤ Awaiting → thread (updated m) p ≡ thread m p
  unanswered p i j =
      let e : thread woke p ≡ thread m p = all_let.past p (not_deserted m (thread m p) (λ z. omega arith)) in
      dispatch_others woke S' p (rw e (λ z. omega arith)) ∙ e

  -- and the inboxes are as they were
  pub same_inboxes : (r : ℕ) → line (updated m) (inbox r) ≡ line m (inbox r)
  same_inboxes r = dispatch_lines woke (inbox r) (omega arith) ∙ all_let.others (inbox r) (omega arith)

-- ---- where the rules as they are call it consistent already, nothing changes

module _ (m : Model) (C : Consistent m) where
  found_not : (n : ℕ) → (thread m (place_of m n)).standing ≢ Empty → not_live m n ≡ true → ⊥
  found_not n k e =
      let z : place_of m n ≡ none = eqb-true _ _ (not-false _ (not-true _ e)) in
      let h = small m (sound m C) (place_of m n) k in
      omega arith

  nobody_deserted : (p : ℕ) → (deserted m).picks (thread m p) ≡ false
  nobody_deserted p =
      let t = thread m p in
      by_test ((deserted m).picks t)
      (λ e. absurd (found_not t.partner (live_placed m (sound m C) t.partner (C.listens p (deserted_standing m t e) (named m t e))).0 (unlived m t e)))
      (λ e. e)

  let_none : (l : List ℕ) → let_go (deserted m) l m ≡ m
  let_none [] = refl
  let_none (p ∷ l) = rw (nobody_deserted p) (let_none l)

  rest : dispatched m ≡ m
  rest = by_test (idle m) (λ t. rw t (ap (λ (l : List ℕ). starts l m) (C.old.settled (eqb-true _ _ t)))) (λ t. rw t)

  pub update_same : updated m ≡ m
  update_same = ap dispatched (let_none all_places) ∙ rest
