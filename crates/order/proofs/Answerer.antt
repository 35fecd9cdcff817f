-- Whom an answer names: after an event each answer is the one that was there before, or one from no thread (255), or it names the one that answers in this
-- event, which lived when the event came.
use Rattle.std.specs.Prelude.{ℕ, ◌≡◌, refl, ◌≢◌, ◌⊎◌, List, [], ◌∷◌, Bool, true, false, cond, not, length, set, eqb}
use Rattle.std.proofs.Common.{sym, ap, ◌∙◌, inl, inr, ⊎_elim, arith, length-set, get_or-set_same, get_or-set_other, eqb-true}
use Rattle.std.proofs.Math.Decide.{ℕ_discrete, dec_lt}
use Rattle.std.proofs.Math.ListN.{get_or-eq_default}
use Rattle.std.proofs.lemmas.Bool.{eqb-false}
use Rattle.lists.specs.Lists.{none, first_of}
use Rattle.lists.specs.Laws.{by_test, never}
use Rattle.lists.specs.Search.{found_in}
use Rattle.kin.specs.Carried.{chained}
use Rattle.rules.specs.Values.{nobody}
use Rattle.rules.specs.Model.{places, Empty, Running, Ready, Sending, Awaiting, Receiving, Waiting, AtDevice, Thread, vacant, Model, ready, clock, device, inbox, thread, line, all_places, lives_at}
use Rattle.rules.specs.Rules.{place_of, idle, mine, runs, put, relined, leave, stands, told, readied, woken, stops, next_number, newcomer, creator, empty_place, gave, wants, hears, send_to, awaits, takes, receive_from, reply_to, out_of_line, handed_back, Group, let_go, awaiting, listening, end_at, child_of, end_one, end, rung, served_at, serves, starts, dispatched, act, refusal, next}
use Rattle.rules.specs.Devices.{first_pending}
use Rattle.rules.specs.Consistent.{above, Consistent}
use Rattle.rules.specs.declared.Number.{Number}
use Rattle.rules.specs.declared.Event.{Event}
use Rattle.rules.specs.declared.Event.TheVariants.{Create, Send, Receive, Reply, End, WaitClock, SliceEnd, Tick, WaitDevice, Interrupt}
use Rattle.order.specs.Sound.{Live, Sound, Kin, sound, kin, sending}
use Rattle.order.specs.Places.{lives_at_lem, place_only}
use Rattle.order.specs.Caller.{alive}
use Rattle.order.specs.EndOne.{one_ends, ends}
use Rattle.order.specs.EndFamily.{Dropped}
use Rattle.order.proofs.EndFamily.{family_ends, dead}
use Rattle.order.specs.Accepted.{Accepted, accepted}
use Rattle.order.specs.Answerer.{Answering, AnswerFrom}

-- ---- what holds of every answer, through what the verbs do to one place
module _ (Q : ℕ → ℕ → ℕ → ℕ → Type 0) where
  -- Q of the place, and of the answer's code, who and word
  abbrev At : ℕ → Thread → Type 0
  At s t = Q s t.code t.who t.answer

  abbrev All : Model → Type 0
  All m = (s : ℕ) → At s (thread m s)

  all_put : (p : ℕ) (t : Thread) (m : Model) → At p t → All m → All (put p t m)
  all_put p t m h A s = elim (ℕ_discrete s p) [
    | no n ↦ rw (get_or-set_other m.threads p s t vacant n) (A s)
    | yes e ↦ rw e (elim (dec_lt p (length m.threads)) [
      | yes i ↦ rw (get_or-set_same m.threads p t vacant i) h
      | no i ↦
          let k = length-set m.threads p t in
          let B : At p (thread m p) = A p in
          rw (get_or-eq_default (set m.threads p t) vacant {n = p} (omega arith)) (rw (get_or-eq_default m.threads vacant {n = p} (omega arith)) at B)
    ])
  ]

  -- a place that stands otherwise has its answer still
  all_stands : (p st pa w : ℕ) (m : Model) → All m → All (put p (stands st pa w (thread m p)) m)
  all_stands p st pa w m A = all_put p (stands st pa w (thread m p)) m (A p) A

  all_woken : (p c n w : ℕ) (m : Model) → Q p c n w → All m → All (woken p c n w m)
  all_woken p c n w m h A = all_put p (stands Ready nobody 0 (told c n w (thread m p))) m h A

  all_out : (p : ℕ) (m : Model) → All m → All (out_of_line p m)
  all_out p m A =
      by_test (eqb (thread m p).standing Running) (λ t. rw t A)
      (λ t. rw t (by_test (eqb (thread m p).standing Ready) (λ t. rw t A)
      (λ t. rw t (by_test (eqb (thread m p).standing Sending) (λ t. rw t A)
      (λ t. rw t (by_test (eqb (thread m p).standing Waiting) (λ t. rw t A)
      (λ t. rw t (by_test (eqb (thread m p).standing AtDevice) (λ t. rw t A) (λ t. rw t A)))))))))

  all_starts : (l : List ℕ) (m : Model) → All m → All (starts l m)
  all_starts [] m A = A
  all_starts (p ∷ l) m A = all_stands p Running nobody 0 m A

  all_dispatched : (m : Model) → All m → All (dispatched m)
  all_dispatched m A = by_test (idle m) (λ t. rw t (all_starts (line m ready) m A)) (λ t. rw t A)

  -- where Q holds of all that come from no thread
  module _ (outer : (s w : ℕ) → Q s 0 nobody w) where
    all_rung : (l : List ℕ) (m : Model) → All m → All (rung l m)
    all_rung [] m A = A
    all_rung (p ∷ l) m A = all_rung l (woken p 0 nobody 0 (relined clock l m)) (all_woken p 0 nobody 0 (relined clock l m) (outer p 0) A)

    all_served : (i : ℕ) (l : List ℕ) (w : ℕ) (m : Model) → All m → All (served_at i l w m)
    all_served i [] w m A = A
    all_served i (p ∷ l) w m A = all_woken p 0 nobody w (relined (device i) l m) (outer p w) A

    all_serves : (i w : ℕ) (m : Model) → All m → All (serves i w m)
    all_serves i w m A = by_test (eqb i none) (λ t. rw t A) (λ t. rw t (all_served i (line m (device i)) w m A))

  -- where Q holds of all that name n
  module _ (n : ℕ) (named : (s c w : ℕ) → Q s c n w) where
    all_back : (r : ℕ) (l : List ℕ) (m : Model) → All m → All (handed_back n r l m)
    all_back r [] m A = A
    all_back r (p ∷ l) m A =
        let k = woken p 16 n (thread m p).word (relined (inbox r) l m) in
        all_back r l k (all_woken p 16 n (thread m p).word (relined (inbox r) l m) (named p 16 (thread m p).word) A)

    all_let : (g : Group) → ((t : Thread) → g.who t ≡ n) → (l : List ℕ) (m : Model) → All m → All (let_go g l m)
    all_let g e [] m A = A
    all_let g e (p ∷ l) m A =
        let k = woken p 16 (g.who (thread m p)) (g.word (thread m p)) m in
        let B : All k = all_woken p 16 (g.who (thread m p)) (g.word (thread m p)) m (rw (e (thread m p)) (named p 16 (g.word (thread m p)))) A in
        all_let g e l (cond (g.picks (thread m p)) k m) (by_test (g.picks (thread m p)) (λ t. rw t B) (λ t. rw t A))

    all_end : ((s w : ℕ) → Q s 0 nobody w) → (p : ℕ) (m : Model) → All m → All (end_at p n m)
    all_end outer p m A =
        let m₁ = out_of_line p m in
        let m₂ = handed_back n p (line m₁ (inbox p)) m₁ in
        let m₃ = let_go (awaiting n) all_places m₂ in
        let A₃ = all_let (awaiting n) (λ t. refl) all_places m₂ (all_back p (line m₁ (inbox p)) m₁ (all_out p m A)) in
        all_put p vacant (let_go (listening n) all_places m₃) (outer p 0) (all_let (listening n) (λ t. refl) all_places m₃ A₃)

    all_send : (p d w : ℕ) (m : Model) → All m → All (send_to p n d w m)
    all_send p d w m A =
        by_test (hears (thread m p) n)
        (λ t. rw t (all_woken p 0 n w (stops Awaiting d w m) (named p 0 w) (all_stands m.running Awaiting d w m A)))
        (λ t. rw t (all_stands m.running Sending d w m A))

    all_reply : (p w : ℕ) (m : Model) → All m → All (reply_to p n w m)
    all_reply p w m A =
        let m₁ = runs none (readied m.running m) in
        all_put p (stands Running nobody 0 (told 0 n w (thread m₁ p))) m₁ (named p 0 w) (all_stands m.running Ready nobody 0 m A)

    all_takes : (c p : ℕ) (m : Model) → (thread m p).number ≡ n → All m → All (takes c p m)
    all_takes c p m e A =
        let k = awaits c p m in
        let B : All k = all_put p (stands Awaiting (thread m p).partner (thread m p).word (thread m p)) (leave (inbox c) p m) (A p) A in
        all_put c (told 0 (thread m p).number (thread m p).word (thread k c)) k (rw e (named c 0 (thread m p).word)) B

-- ---- the end of a family: whoever is of it answers when its turn comes

-- the answer at s is that of m, or is from no thread, or names one that lived in m and is gone in k
abbrev AnswerLeft : Model → Model → ℕ → ℕ → ℕ → ℕ → Type 0
AnswerLeft m k s c n w =
    (((thread m s).code ≡ c) × ((thread m s).who ≡ n) × ((thread m s).answer ≡ w))
    ⊎ ((n ≡ nobody) ⊎ ((q : ℕ) × (lives_at m q ≡ true) × (lives_at k q ≡ false) × ((thread m q).number ≡ n)))

record Left (m k : Model) : Type 0 where
  fewer : (r : ℕ) → lives_at k r ≡ true → (lives_at m r ≡ true) × ((thread k r).number ≡ (thread m r).number)
  answers : All (AnswerLeft m k) k

left_self : (m : Model) → Sound m → Left m m
left_self m S = record { fewer = λ r h. (h, refl); answers = λ s. inl (refl, refl, refl) }

left_then : (a b c : Model) → Sound a → Sound b → Sound c → Left a b → Left b c → Left a c
left_then a b c _ _ _ F G = record {
  fewer = λ r h. let g = G.fewer r h in let f = F.fewer r g.0 in (f.0, g.1 ∙ f.1);
  answers = λ s. ⊎_elim
      (λ g. ⊎_elim (λ f. inl (f.0 ∙ g.0, f.1 ∙ g.1, f.2 ∙ g.2))
      (λ v. ⊎_elim (λ z. inr (inl (sym g.1 ∙ z)))
      (λ f. inr (inr (f.0, f.1, by_test (lives_at c f.0) (λ t. never (G.fewer f.0 t).0 f.2) (λ t. t), f.3 ∙ g.1))) v)
      (F.answers s))
      (λ v. ⊎_elim (λ z. inr (inl z)) (λ g. let f = F.fewer g.0 g.1 in inr (inr (g.0, f.0, g.2, sym f.1 ∙ g.3))) v)
      (G.answers s);
}

left_one : (m : Model) → Sound m → (p : ℕ) → lives_at m p ≡ true → Left m (end_one p m)
left_one m S p h =
    let W = one_ends m S p h in
    let k = end_one p m in
    let out : lives_at k p ≡ false = ap (λ (t : Thread). not (eqb t.standing Empty)) W.own in
    record {
      fewer = λ r g. let z : r ≢ p = λ e. never g (ap (lives_at k) e ∙ out) in (sym (W.lives r z) ∙ g, W.numbers r z);
      answers = all_end (AnswerLeft m k) (thread m p).number (λ s c w. inr (inr (p, h, out, refl))) (λ s w. inr (inl refl)) p m (λ s. inl (refl, refl, refl));
    }

left_all : (m : Model) → Sound m → (p : ℕ) (k : Model) → Dropped m p k → All (AnswerLeft m k) k
left_all m S p k D = (chained Sound lives_at above end_one places all_places child_of ends Left left_self left_then left_one D.turns.0 m k S D.turns.1).1.answers

module _ (e : Event) (m : Model) where
  start : All (AnswerFrom e m) m
  start s = inl (refl, refl, refl)

  outer : (s w : ℕ) → AnswerFrom e m s 0 nobody w
  outer s w = inr (inl refl)

  named : (n : ℕ) → Answering e m n × Live m n → (s c w : ℕ) → AnswerFrom e m s c n w
  named n a s c w = inr (inr a)

  receives_from : (n p : ℕ) → (p ≢ none → Answering e m (thread m p).number × Live m (thread m p).number) → All (AnswerFrom e m) (receive_from p n m)
  receives_from n p a =
      by_test (eqb p none)
      (λ t. rw t (all_stands (AnswerFrom e m) m.running Receiving n 0 m start))
      (λ t. rw t (all_takes (AnswerFrom e m) (thread m p).number (named (thread m p).number (a (eqb-false _ _ t))) m.running p m refl start))

module _ (m : Model) (S : Sound m) (K : Kin m) where
  caller : m.running ≢ none → Live m (mine m)
  caller busy = (m.running, alive m S busy, refl)

  sender : (f : ℕ → Bool) (r : ℕ) → let p = first_of f (line m (inbox r)) in p ≢ none → Live m (thread m p).number
  sender f r h =
      let p = first_of f (line m (inbox r)) in
      let e = sending m S r p (found_in f (line m (inbox r)) h) in
      (p, omega arith, refl)

  ended : (t : Number) → Accepted (End t) m → All (AnswerFrom (End t) m) (act (End t) m)
  ended t a s =
      let D = family_ends m S K t.0 a in
      ⊎_elim (λ v. inl v)
      (λ v. ⊎_elim (λ z. inr (inl z))
      (λ g.
      let l = lives_at_lem m g.0 g.1 in
      let at = ap (place_of m) (sym g.3) ∙ place_only m S g.0 l in
      inr (inr ((a, rw at (D.without.only g.0 l (dead (end t.0 m) g.0 g.2))), (g.0, l, g.3)))) v)
      (left_all m S (place_of m t.0) (end t.0 m) D s)

  act_answers : (e : Event) → Accepted e m → All (AnswerFrom e m) (act e m)
  act_answers Create a =
      let n = next_number m in
      all_put (AnswerFrom Create m) (empty_place m) (newcomer n (creator m)) (gave n m) (outer Create m (empty_place m) 0) (start Create m)
  act_answers (Send d w) a =
      let e = Send d w in
      all_send (AnswerFrom e m) (mine m) (named e m (mine m) (refl, caller a.0)) (place_of m d.0) d.0 w m (start e m)
  act_answers (Receive n) a =
      let f : ℕ → Bool = λ p. wants n.0 (thread m p).number in
      let l = line m (inbox m.running) in
      receives_from (Receive n) m n.0 (first_of f l) (λ h. ((first_of f l, found_in f l h, refl), sender f m.running h))
  act_answers (Reply t w) a =
      let e = Reply t w in
      all_reply (AnswerFrom e m) (mine m) (named e m (mine m) (refl, caller a.0)) (place_of m t.0) w m (start e m)
  act_answers (End t) a = ended t a
  act_answers WaitClock a = all_stands (AnswerFrom WaitClock m) m.running Waiting nobody 0 m (start WaitClock m)
  act_answers SliceEnd a =
      by_test (idle m) (λ t. rw t (start SliceEnd m)) (λ t. rw t (all_stands (AnswerFrom SliceEnd m) m.running Ready nobody 0 m (start SliceEnd m)))
  act_answers Tick a = all_rung (AnswerFrom Tick m) (outer Tick m) (line m clock) m (start Tick m)
  act_answers (WaitDevice i) a = let e = WaitDevice i in all_stands (AnswerFrom e m) m.running AtDevice i.0 0 m (start e m)
  act_answers (Interrupt s w) a = let e = Interrupt s w in all_serves (AnswerFrom e m) (outer e m) (first_pending s) w m (start e m)

pub answerer : (e : Event) (m : Model) → Consistent m → (s : ℕ) → let t = thread (next e m) s in AnswerFrom e m s t.code t.who t.answer
answerer e m C s = go (eqb (refusal e m) 0) refl
  where
    go : (b : Bool) → eqb (refusal e m) 0 ≡ b → let t = thread (cond b (dispatched (act e m)) m) s in AnswerFrom e m s t.code t.who t.answer
    go true z = all_dispatched (AnswerFrom e m) (act e m) (act_answers m (sound m C) (kin m C) e (accepted e m (eqb-true _ _ z))) s
    go false z = start e m s
