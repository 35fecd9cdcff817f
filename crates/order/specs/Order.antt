-- The document's end takes the thread out of its line first, `end_last` last. On a Sound nucleus they are the same:
-- to leave a line, or to stop running, commutes with every hand-back.
use Rattle.std.specs.Prelude.{ℕ, ◌<◌, ◌≡◌, refl, ◌≢◌, List, [], ◌∷◌, ◌++◌, Bool, true, false, cond, length, get_or, set}
use Rattle.std.proofs.Common.{sym, ap, ◌∙◌, arith, length-set, get_or-set_same, get_or-set_other, set-set, eq-eqb, ne_eqb}
use Rattle.std.proofs.Math.Decide.{ℕ_discrete}
use Rattle.std.proofs.lemmas.List.{set_comm}
use Rattle.lists.specs.Lists.{none, among, without}
use Rattle.lists.specs.Laws.{is_left}
use Rattle.lists.specs.Counts.{some_among}
use Rattle.lists.specs.Without.{without_append}
use Rattle.rules.specs.Values.{nobody}
use Rattle.rules.specs.Model.{Empty, Running, Ready, Sending, Waiting, AtDevice, Thread, vacant, Model, ready, clock, device, inbox, thread, line, all_places}
use Rattle.rules.specs.Rules.{place_of, put, relined, leave, stands, told, woken, handed_back, Group, let_go, awaiting, listening, out_of_line, end_at}
use Rattle.order.specs.Sound.{Sound, at_index}
use Rattle.order.specs.Places.{live_placed}
use Rattle.order.specs.Moves.{Step}
use Rattle.order.specs.HandBack.{let_step, handed_all}
use Rattle.order.specs.End.{end_last}

-- ---- what a hand-back does to the lines: from inbox a, whose rest is l, to ready; or just to ready

abbrev enter : ℕ → List (List ℕ) → List (List ℕ)
enter s L = set L ready (get_or L ready [] ++ (s ∷ []))

abbrev pass : ℕ → List ℕ → ℕ → List (List ℕ) → List (List ℕ)
pass a l s L = enter s (set L (inbox a) l)

-- any change of who runs and of the lines that commutes with those, commutes with the hand-backs
module _ (n a : ℕ) (g : ℕ → ℕ) (h : List (List ℕ) → List (List ℕ)) (inv : List (List ℕ) → Type 0)
    (c₁ : (L : List (List ℕ)) (l : List ℕ) (s : ℕ) → inv L → pass a l s (h L) ≡ h (pass a l s L))
    (c₂ : (L : List (List ℕ)) (s : ℕ) → inv L → enter s (h L) ≡ h (enter s L))
    (i₁ : (L : List (List ℕ)) (l : List ℕ) (s : ℕ) → inv L → inv (pass a l s L))
    (i₂ : (L : List (List ℕ)) (s : ℕ) → inv L → inv (enter s L)) where
  abbrev op : Model → Model
  op m = record { last = m.last; running = g m.running; threads = m.threads; lines = h m.lines }

  hand_comm : (l : List ℕ) (m : Model) → inv m.lines → (handed_back n a l (op m) ≡ op (handed_back n a l m)) × inv (handed_back n a l m).lines
  hand_comm [] m i = (refl, i)
  hand_comm (s ∷ l) m i =
      let t = stands Ready nobody 0 (told 16 n (thread m s).word (thread m s)) in
      let m₁ = woken s 16 n (thread m s).word (relined (inbox a) l m) in
      let R = hand_comm l m₁ (i₁ m.lines l s i) in
      let e : woken s 16 n (thread m s).word (relined (inbox a) l (op m)) ≡ op m₁ =
      λ j. record { last = m.last; running = g m.running; threads = set m.threads s t; lines = c₁ m.lines l s i j } in
      (ap (handed_back n a l) e ∙ R.0, R.1)

  let_comm_one : (m : Model) (s c w : ℕ) (b : Bool) → inv m.lines
      → (cond b (woken s 16 c w (op m)) (op m) ≡ op (cond b (woken s 16 c w m) m)) × inv (cond b (woken s 16 c w m) m).lines
  let_comm_one m s c w true i =
      let t = stands Ready nobody 0 (told 16 c w (thread m s)) in
      ((λ j. record { last = m.last; running = g m.running; threads = set m.threads s t; lines = c₂ m.lines s i j }), i₂ m.lines s i)
  let_comm_one m s c w false i = (refl, i)

  let_comm : (v : Group) (l : List ℕ) (m : Model) → inv m.lines → (let_go v l (op m) ≡ op (let_go v l m)) × inv (let_go v l m).lines
  let_comm v [] m i = (refl, i)
  let_comm v (s ∷ l) m i =
      let R = let_comm_one m s (v.who (thread m s)) (v.word (thread m s)) (v.picks (thread m s)) i in
      let T = let_comm v l (let_step v s m) R.1 in
      (ap (let_go v l) R.0 ∙ T.0, T.1)

  all_comm : (l k : List ℕ) (m : Model) → inv m.lines
      → let_go (listening n) k (let_go (awaiting n) k (handed_back n a l (op m))) ≡ op (let_go (listening n) k (let_go (awaiting n) k (handed_back n a l m)))
  all_comm l k m i =
      let R = hand_comm l m i in
      let T = let_comm (awaiting n) k (handed_back n a l m) R.1 in
      ap (λ (x : Model). let_go (listening n) k (let_go (awaiting n) k x)) R.0 ∙ ap (let_go (listening n) k) T.0 ∙ (let_comm (listening n) k (let_go (awaiting n) k (handed_back n a l m)) T.1).0

-- ---- p leaves line q of L

abbrev off : ℕ → ℕ → List (List ℕ) → List (List ℕ)
off p q L = set L q (without p (get_or L q []))

-- another line than ready, and than inbox a
module _ (p q a : ℕ) (q0 : q ≢ ready) (qa : q ≢ inbox a) where
  off_enter : (L : List (List ℕ)) (s : ℕ) → enter s (off p q L) ≡ off p q (enter s L)
  off_enter L s =
      rw (get_or-set_other L q ready (without p (get_or L q [])) [] (λ e. q0 (sym e)), get_or-set_other L ready q (get_or L ready [] ++ (s ∷ [])) [] q0)
      (set_comm L q ready (without p (get_or L q [])) (get_or L ready [] ++ (s ∷ [])) q0)

  off_line_lem : (L : List (List ℕ)) (l : List ℕ) → set (off p q L) (inbox a) l ≡ off p q (set L (inbox a) l)
  off_line_lem L l = rw (get_or-set_other L (inbox a) q l [] qa) (set_comm L q (inbox a) (without p (get_or L q [])) l qa)

  off_pass : (L : List (List ℕ)) (l : List ℕ) (s : ℕ) → pass a l s (off p q L) ≡ off p q (pass a l s L)
  off_pass L l s = ap (enter s) (off_line_lem L l) ∙ off_enter (set L (inbox a) l) s

-- ready itself, where p stands
abbrev Inside : ℕ → List (List ℕ) → Type 0
Inside p L = (among p (get_or L ready []) ≡ true) × (0 < length L)

module _ (p a : ℕ) where
  a0 : ready ≢ inbox a
  a0 = omega arith

  enter_inside : (L : List (List ℕ)) (s : ℕ) → Inside p L → Inside p (enter s L)
  enter_inside L s i = (
    rw (get_or-set_same L ready (get_or L ready [] ++ (s ∷ [])) [] i.1) (is_left p (get_or L ready []) (s ∷ []) i.0),
    rw (length-set L ready (get_or L ready [] ++ (s ∷ []))) i.1,
  )

  line_inside : (L : List (List ℕ)) (l : List ℕ) → Inside p L → Inside p (set L (inbox a) l)
  line_inside L l i = (rw (get_or-set_other L (inbox a) ready l [] a0) i.0, rw (length-set L (inbox a) l) i.1)

  pass_inside : (L : List (List ℕ)) (l : List ℕ) (s : ℕ) → Inside p L → Inside p (pass a l s L)
  pass_inside L l s i = enter_inside (set L (inbox a) l) s (line_inside L l i)

  front_enter : (L : List (List ℕ)) (s : ℕ) → Inside p L → enter s (off p ready L) ≡ off p ready (enter s L)
  front_enter L s i =
      rw (
        get_or-set_same L ready (without p (get_or L ready [])) [] i.1,
        get_or-set_same L ready (get_or L ready [] ++ (s ∷ [])) [] i.1,
        set-set L ready (without p (get_or L ready [])) (without p (get_or L ready []) ++ (s ∷ [])),
        set-set L ready (get_or L ready [] ++ (s ∷ [])) (without p (get_or L ready [] ++ (s ∷ []))),
        without_append p (get_or L ready []) (s ∷ []) i.0,
      )

  front_line : (L : List (List ℕ)) (l : List ℕ) → set (off p ready L) (inbox a) l ≡ off p ready (set L (inbox a) l)
  front_line L l = rw (get_or-set_other L (inbox a) ready l [] a0) (set_comm L ready (inbox a) (without p (get_or L ready [])) l a0)

  front_pass : (L : List (List ℕ)) (l : List ℕ) (s : ℕ) → Inside p L → pass a l s (off p ready L) ≡ off p ready (pass a l s L)
  front_pass L l s i = ap (enter s) (front_line L l) ∙ front_enter (set L (inbox a) l) s (line_inside L l i)

-- ---- the two orders, up to the cleaning

module _ (m : Model) (S : Sound m) (n p : ℕ) (k : List ℕ) (live : (thread m p).standing ≢ Empty) where
  abbrev later : Model
  later = let_go (listening n) k (let_go (awaiting n) k (handed_back n p (line m (inbox p)) m))

  module _ (F : Step m later) (kept : thread later p ≡ thread m p) where
    S' : Sound later
    S' = F.kept.sound

    st : (thread later p).standing ≡ (thread m p).standing
    st = ap (λ (t : Thread). t.standing) kept

    other_line : (q : ℕ) → q ≢ ready → q ≢ inbox p
        → let_go (listening n) k (let_go (awaiting n) k (handed_back n p (line (leave q p m) (inbox p)) (leave q p m))) ≡ leave q p later
    other_line q q0 qa =
        rw (get_or-set_other m.lines q (inbox p) (without p (line m q)) [] (λ e. qa (sym e)))
        (all_comm n p (λ x. x) (off p q) (λ _. Unit {0}) (λ L l s _. off_pass p q p q0 qa L l s) (λ L s _. off_enter p q p q0 qa L s) (λ _ _ _ _. tt) (λ _ _ _. tt)
        (line m (inbox p)) k m tt)

    same : let_go (listening n) k (let_go (awaiting n) k (handed_back n p (line (out_of_line p m) (inbox p)) (out_of_line p m))) ≡ out_of_line p later
    same = elim (ℕ_discrete (thread m p).standing Running) [
      | yes e ↦ rw (eq-eqb (thread m p).standing Running e, eq-eqb (thread later p).standing Running (st ∙ e))
          (all_comm n p (λ _. none) (λ L. L) (λ _. Unit {0}) (λ _ _ _ _. refl) (λ _ _ _. refl) (λ _ _ _ _. tt) (λ _ _ _. tt) (line m (inbox p)) k m tt)
      | no n1 ↦ rw (ne_eqb (thread m p).standing Running n1, ne_eqb (thread later p).standing Running (rw st n1)) (elim (ℕ_discrete (thread m p).standing Ready) [
        | yes e ↦ rw (eq-eqb (thread m p).standing Ready e, eq-eqb (thread later p).standing Ready (st ∙ e), get_or-set_other m.lines ready (inbox p) (without p (line m ready)) [] (omega arith))
            (all_comm n p (λ x. x) (off p ready) (Inside p) (front_pass p p) (front_enter p p) (pass_inside p p) (enter_inside p p) (line m (inbox p)) k m
            (some_among p (line m ready) (rw (S.stood p ready, e) (omega arith)), omega (arith, S.lines)))
        | no n2 ↦ rw (ne_eqb (thread m p).standing Ready n2, ne_eqb (thread later p).standing Ready (rw st n2)) (elim (ℕ_discrete (thread m p).standing Sending) [
          | yes e ↦
              let v = live_placed m S (thread m p).partner (S.served p (omega arith) (omega arith)) in
              let pa : (thread later p).partner ≡ (thread m p).partner = ap (λ (t : Thread). t.partner) kept in
              let u = live_placed later S' (thread later p).partner (S'.served p (let z = st in omega arith) (let z = st in omega arith)) in
              let c : place_of later (thread later p).partner ≡ place_of m (thread m p).partner =
              S'.differ _ _ u.0 (u.1 ∙ pa ∙ sym v.1 ∙ sym (F.kept.numbers (place_of m (thread m p).partner))) in
              let ne : place_of m (thread m p).partner ≢ p = λ z. (S.fits p).apart live (omega arith) (sym v.1 ∙ ap (λ (s : ℕ). (thread m s).number) z) in
              rw (eq-eqb (thread m p).standing Sending e, eq-eqb (thread later p).standing Sending (st ∙ e), c)
              (other_line (inbox (place_of m (thread m p).partner)) (omega arith) (λ z. ne (omega arith)))
          | no n3 ↦ rw (ne_eqb (thread m p).standing Sending n3, ne_eqb (thread later p).standing Sending (rw st n3)) (elim (ℕ_discrete (thread m p).standing Waiting) [
            | yes e ↦ rw (eq-eqb (thread m p).standing Waiting e, eq-eqb (thread later p).standing Waiting (st ∙ e)) (other_line clock (omega arith) (omega arith))
            | no n6 ↦ rw (ne_eqb (thread m p).standing Waiting n6, ne_eqb (thread later p).standing Waiting (rw st n6)) (elim (ℕ_discrete (thread m p).standing AtDevice) [
              | yes e ↦
                  let pa : (thread later p).partner ≡ (thread m p).partner = ap (λ (t : Thread). t.partner) kept in
                  let i = at_index m S p e in
                  rw (eq-eqb (thread m p).standing AtDevice e, eq-eqb (thread later p).standing AtDevice (st ∙ e), pa)
                  (other_line (device (thread m p).partner) (omega arith) (omega arith))
              | no n7 ↦ rw (ne_eqb (thread m p).standing AtDevice n7, ne_eqb (thread later p).standing AtDevice (rw st n7)) refl
            ])
          ])
        ])
      ])
    ]

in_order : (m : Model) (S : Sound m) (n p : ℕ) (k : List ℕ) → (thread m p).standing ≢ Empty → (thread m p).number ≡ n
    → let_go (listening n) k (let_go (awaiting n) k (handed_back n p (line (out_of_line p m) (inbox p)) (out_of_line p m)))
    ≡ out_of_line p (let_go (listening n) k (let_go (awaiting n) k (handed_back n p (line m (inbox p)) m)))
in_order m S n p k live number = let H = handed_all m S n p live number k in same m S n p k live H.0 H.1

-- ---- the theorem

pub written_at : (m : Model) → Sound m → (p n : ℕ) → (thread m p).standing ≢ Empty → (thread m p).number ≡ n → end_at p n m ≡ end_last p n m
written_at m S p n live number = ap (put p vacant) (in_order m S n p all_places live number)
