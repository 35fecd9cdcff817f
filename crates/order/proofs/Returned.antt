-- No send is lost where a family ends (document 02, P5): whoever was sending to one of it, or awaited its reply, comes back with 16, the receiver and its own
-- word; or it was of the family itself, and ended. In the order of the ends: when the receiver's turn comes the sender has ended first, or the word comes back
-- with that end.
use Rattle.std.specs.Prelude.{ℕ, ◌≤◌, ◌<◌, ◌≡◌, refl, ◌≢◌, ◌⊎◌, List, [], ◌∷◌, Bool, true, false, cond, get_or, set, eqb}
use Rattle.std.proofs.Common.{sym, ap, ◌∙◌, inl, inr, ⊎_elim, arith, eqb-true}
use Rattle.std.proofs.Math.Path.{subst⁻¹}
use Rattle.std.proofs.Math.Decide.{ℕ_discrete}
use Rattle.std.proofs.lemmas.Bool.{not-false}
use Rattle.lists.specs.Lists.{none, count}
use Rattle.lists.specs.Laws.{by_test}
use Rattle.lists.specs.Counts.{count_self}
use Rattle.kin.specs.Family.{OneByOne}
use Rattle.kin.specs.Carried.{carried, chained}
use Rattle.rules.specs.Values.{nobody}
use Rattle.rules.specs.Model.{places, last_number, Empty, Running, Ready, Sending, Awaiting, Receiving, Waiting, AtDevice, Thread, vacant, Model, ready, inbox, thread, line, all_places, lives_at}
use Rattle.rules.specs.Rules.{place_of, relined, out_of_line, woken, handed_back, Group, let_go, awaiting, listening, child_of, end_one, end}
use Rattle.rules.specs.Consistent.{above}
use Rattle.order.specs.Sound.{Sound, Kin, small, sending, sent}
use Rattle.order.specs.Places.{lives_at_lem, at_lives, unused}
use Rattle.order.specs.Moves.{beside, here}
use Rattle.order.specs.Lines.{tail_line}
use Rattle.order.specs.Standings.{become}
use Rattle.order.specs.HandBack.{back, hands, Fair, let_step, let_one, lets, picked_standing, picked_partner, awaiting_fair, listening_fair}
use Rattle.order.specs.End.{end_last}
use Rattle.order.specs.Order.{written_at}
use Rattle.order.specs.EndOne.{one_ends, ends}
use Rattle.order.specs.EndFamily.{Of, Dropped}
use Rattle.order.proofs.EndFamily.{family_ends, dead}
use Rattle.order.specs.Returned.{Returned}

-- t is now u: one that was ready is as it was, and one that sent a word is as it was or has it back
record Fared (t u : Thread) : Type 0 where
  waits : t.standing ≡ Ready → u ≡ t
  sends : Sending ≤ t.standing → t.standing ≤ Awaiting → (u ≡ t) ⊎ Returned t u

same : {t u : Thread} → u ≡ t → Fared t u
same e = record { waits = λ _. e; sends = λ _ _. inl e }

fared_then : (a b c : Thread) → Fared a b → Fared b c → Fared a c
fared_then a b c F G = record {
  waits = λ e. let f = F.waits e in G.waits (rw f e) ∙ f;
  sends = λ i j. ⊎_elim
      (λ f. rw f at (G.sends (rw f i) (rw f j)))
      (λ R. let e = G.waits R.standing in inr (rw e R))
      (F.sends i j);
}

-- ---- one is woken
module _ (m : Model) (S : Sound m) (p c w : ℕ) (place : p < places) (unready : (thread m p).standing ≢ Ready)
    (own : Sending ≤ (thread m p).standing → (thread m p).standing ≤ Awaiting → (c ≡ (thread m p).partner) × (w ≡ (thread m p).word)) where
  fared_woken : (r : ℕ) → Fared (thread m r) (get_or (set m.threads p (become m p Ready nobody 0 16 c w)) r vacant)
  fared_woken r = elim (ℕ_discrete r p) [
    | no n ↦ same (beside m p r _ n)
    | yes e ↦ rw (e, here m S p (become m p Ready nobody 0 16 c w) place) (record {
      waits = λ z. absurd (unready z);
      sends = λ i j. let o = own i j in inr (record { standing = refl; code = refl; who = o.0; answer = o.1 });
    })
  ]

-- ---- the hand-backs
fared_hands : (l : List ℕ) (m : Model) → Sound m → (n q : ℕ) → n ≤ last_number → (thread m q).standing ≢ Empty → (thread m q).number ≡ n → line m (inbox q) ≡ l
    → (r : ℕ) → Fared (thread m r) (thread (handed_back n q l m) r)
fared_hands [] m S n q low live number e r = same refl
fared_hands (p ∷ l) m S n q low live number e r =
    let B = back m S n q p l low live e in
    let m₁ = woken p 16 n (thread m p).word (relined (inbox q) l m) in
    let i : q < places = small m S q live in
    let h : 1 ≤ count p (line m (inbox q)) = rw (e, count_self p l) (omega arith) in
    let st = sending m S q p h in
    let z : thread m₁ q ≡ thread m q = beside m p q (become m p Ready nobody 0 16 n (thread m p).word) B.1 in
    fared_then (thread m r) (thread m₁ r) (thread (handed_back n q l m₁) r)
    (fared_woken m S p n (thread m p).word (small m S p (omega arith)) (omega arith) (λ _ _. (sym number ∙ sym (sent m S q p h), refl)) r)
    (fared_hands l m₁ B.0.kept.sound n q low (rw z live) (rw z number) (tail_line m S p (inbox q) ready l (omega arith) (omega arith)) r)

-- a group tells the senders whom it picks that receiver, and their own word
abbrev Own : Group → Type 0
Own g = (t : Thread) → g.picks t ≡ true → Sending ≤ t.standing → t.standing ≤ Awaiting → (g.who t ≡ t.partner) × (g.word t ≡ t.word)

fared_let : (g : Group) → Fair g → Own g → (l : List ℕ) (m : Model) → Sound m → (r : ℕ) → Fared (thread m r) (thread (let_go g l m) r)
fared_let g F O [] m S r = same refl
fared_let g F O (p ∷ l) m S r =
    let m₁ = let_step g p m in
    fared_then (thread m r) (thread m₁ r) (thread (let_go g l m₁) r) (one (g.picks (thread m p)) refl) (fared_let g F O l m₁ (let_one m S g F p).step.kept.sound r)
  where
    one : (b : Bool) → g.picks (thread m p) ≡ b → Fared (thread m r) (thread (cond b (woken p 16 (g.who (thread m p)) (g.word (thread m p)) m) m) r)
    one false e = same refl
    one true e =
        let st = F.loose (thread m p) (S.fits p) e in
        fared_woken m S p (g.who (thread m p)) (g.word (thread m p)) (small m S p (λ z. omega (arith, st.0))) (λ z. omega (arith, st.0)) (O (thread m p) e) r

-- ---- one thread ends
out_threads : (p : ℕ) (m : Model) → (out_of_line p m).threads ≡ m.threads
out_threads p m =
    let st = (thread m p).standing in
    by_test (eqb st Running) (λ a. rw a) (λ a.
    by_test (eqb st Ready) (λ b. rw (a, b)) (λ b.
    by_test (eqb st Sending) (λ c. rw (a, b, c)) (λ c.
    by_test (eqb st Waiting) (λ d. rw (a, b, c, d)) (λ d.
    by_test (eqb st AtDevice) (λ e. rw (a, b, c, d, e)) (λ e. rw (a, b, c, d, e))))))

own_awaiting : (n : ℕ) → Own (awaiting n)
own_awaiting n t e i j = (sym (picked_partner Awaiting n t e), refl)

own_listening : (n : ℕ) → Own (listening n)
own_listening n t e i j = absurd (let z = picked_standing Receiving n t e in omega arith)

fared_one : (m : Model) → Sound m → (p : ℕ) → lives_at m p ≡ true → (r : ℕ) → r ≢ p → lives_at m r ≡ true → Fared (thread m r) (thread (end_one p m) r)
fared_one m S p h r other _ =
    let live = lives_at_lem m p h in
    let n = (thread m p).number in
    let low : n ≤ last_number = (S.fits p).number live in
    let m₁ = handed_back n p (line m (inbox p)) m in
    let m₂ = let_go (awaiting n) all_places m₁ in
    let m₃ = let_go (listening n) all_places m₂ in
    let S₁ = (hands (line m (inbox p)) m S n p low live refl).step.kept.sound in
    let S₂ = (lets all_places m₁ S₁ (awaiting n) (awaiting_fair n low)).step.kept.sound in
    let last : thread (end_last p n m) r ≡ thread m₃ r = beside (out_of_line p m₃) p r vacant other ∙ ap (λ (ts : List Thread). get_or ts r vacant) (out_threads p m₃) in
    let all : thread (end_one p m) r ≡ thread m₃ r = ap (λ (k : Model). thread k r) (written_at m S p n live refl) ∙ last in
    subst⁻¹ (λ (u : Thread). Fared (thread m r) u) all (
    fared_then (thread m r) (thread m₁ r) (thread m₃ r) (fared_hands (line m (inbox p)) m S n p low live refl refl r) (
    fared_then (thread m₁ r) (thread m₂ r) (thread m₃ r) (fared_let (awaiting n) (awaiting_fair n low) (own_awaiting n) all_places m₁ S₁ r)
    (fared_let (listening n) (listening_fair n low) (own_listening n) all_places m₂ S₂ r)))

-- ---- the theorem: r sends to a thread q of the family of n, or awaits its reply
pub returned : (m : Model) → Sound m → Kin m → (n : ℕ) → place_of m n ≢ none → (q : ℕ) → (thread m q).standing ≢ Empty → Of m (place_of m n) q
    → (r : ℕ) → Sending ≤ (thread m r).standing → (thread m r).standing ≤ Awaiting → (thread m r).partner ≡ (thread m q).number
    → (((thread (end n m) r).standing ≡ Empty) × Of m (place_of m n) r) ⊎ Returned (thread m r) (thread (end n m) r)
returned m S K n h q l of r i j to =
    by_test (lives_at k r)
    (λ t. ⊎_elim (λ e. absurd (unserved e)) (λ R. inr R) ((fared t).sends i j))
    (λ t. inl (dead k r t, D.without.only r (λ z. omega arith) (dead k r t)))
  where
    k : Model
    k = end n m

    D : Dropped m (place_of m n) k
    D = family_ends m S K n h

    fared : lives_at k r ≡ true → Fared (thread m r) (thread k r)
    fared t = (carried Sound lives_at above end_one places all_places child_of ends (λ a b s. Fared (thread a s) (thread b s)) (λ a s. same refl)
        (λ a b c s. fared_then (thread a s) (thread b s) (thread c s)) fared_one D.turns.0 m k S D.turns.1 r t).1

    -- it does not wait on: whom a sender has for partner lives, and the number of q is nobody's
    unserved : thread k r ≡ thread m r → ⊥
    unserved e =
        let v = D.sound.served r (rw e i) (rw e j) in
        let g : place_of k (thread m q).number ≡ none = eqb-true _ _ (not-false _ (D.number q l (D.without.gone q l of))) in
        unused k D.sound (thread m q).number g v.0 v.1 (v.2 ∙ ap (λ (t : Thread). t.partner) e ∙ to)

-- ---- and in the order of the ends: those of the places l have ended when the turn of q comes
pub returned_in_turn : (l : List ℕ) (m k : Model) → Sound m → OneByOne Sound lives_at above end_one l m k → (q : ℕ) → lives_at k q ≡ true
    → (r : ℕ) → Sending ≤ (thread m r).standing → (thread m r).standing ≤ Awaiting → (thread m r).partner ≡ (thread m q).number
    → (lives_at k r ≡ false) ⊎ Returned (thread m r) (thread (end_one q k) r)
returned_in_turn l m k S T q h r i j to =
    by_test (lives_at k r)
    (λ t. ⊎_elim (λ e. absurd (unserved e)) (λ R. inr R) ((fared_then (thread m r) (thread k r) (thread (end_one q k) r) (fared t) (fared_one k Sk q h r other t)).sends i j))
    (λ t. inl t)
  where
    Sk : Sound k
    Sk = (chained Sound lives_at above end_one places all_places child_of ends (λ _ _. Unit {0}) (λ _ _. tt) (λ _ _ _ _ _ _ _ _. tt) (λ _ _ _ _. tt) l m k S T).0

    fared : lives_at k r ≡ true → Fared (thread m r) (thread k r)
    fared t = (carried Sound lives_at above end_one places all_places child_of ends (λ a b s. Fared (thread a s) (thread b s)) (λ a s. same refl)
        (λ a b c s. fared_then (thread a s) (thread b s) (thread c s)) fared_one l m k S T r t).1

    number : (thread k q).number ≡ (thread m q).number
    number = (carried Sound lives_at above end_one places all_places child_of ends (λ a b s. (thread b s).number ≡ (thread a s).number) (λ a s. refl)
        (λ a b c s f g. g ∙ f) (λ a Sa p g s n _. (one_ends a Sa p g).numbers s n) l m k S T q h).1

    -- nobody sends to itself
    other : r ≢ q
    other e = (S.fits r).apart (λ z. omega arith) (λ z. omega arith) (to ∙ ap (λ (p : ℕ). (thread m p).number) (sym e))

    unserved : thread (end_one q k) r ≡ thread m r → ⊥
    unserved e =
        let W = one_ends k Sk q h in
        let v = W.sound.served r (rw e i) (rw e j) in
        let ne : v.0 ≢ q = λ z. v.1 (ap (λ (p : ℕ). (thread (end_one q k) p).standing) z ∙ ap (λ (t : Thread). t.standing) W.own) in
        let live : (thread k v.0).standing ≢ Empty = lives_at_lem k v.0 (sym (W.lives v.0 ne) ∙ at_lives (end_one q k) v.0 v.1) in
        ne (Sk.differ v.0 q live (sym (W.numbers v.0 ne) ∙ v.2 ∙ ap (λ (t : Thread). t.partner) e ∙ to ∙ sym number))
