-- Where all tests hold the nucleus is consistent, by the rules that they go by (`judged`).
use Rattle.std.specs.Prelude.{ℕ, ◌≤◌, ◌<◌, ◌^◌, ◌≡◌, refl, ◌≢◌, List, [], ◌∷◌, Bool, true, false, ◌&&◌, ◌||◌, length, get_or, eqb, ltb}
use Rattle.std.proofs.Common.{sym, ap, ◌∙◌, arith, eqb-true, eq-eqb, ne_eqb, leb-true, ltb-true, lt-ltb, le-ltb}
use Rattle.std.proofs.Math.Bool.{or-false}
use Rattle.std.proofs.Math.Decide.{ℕ_discrete, dec_lt}
use Rattle.std.proofs.lemmas.Bool.{not-true}
use Rattle.lists.specs.Lists.{none, bit, count}
use Rattle.lists.specs.Laws.{never, and_left, and_right}
use Rattle.kin.specs.Climb.{climb}
use Rattle.rules.specs.Values.{nobody}
use Rattle.rules.specs.Model.{places, devices, last_number, Empty, Ready, Sending, Awaiting, Receiving, Waiting, AtDevice, Thread, vacant, Model, ready, clock, device, inbox, line_count, thread, line}
use Rattle.rules.specs.Rules.{hears, is_nil}
use Rattle.rules.specs.Consistent.{is_number, as_table, above, belongs, OldConsistent, ListensToLive, ConsistentBy}
use Rattle.order.specs.Sound.{Fit, numbered, Sound, Kin, old_whole, out, inside}
use Rattle.order.specs.ByLine.{by_line, at_device, at_inbox}
use Rattle.order.specs.Belongs.{Lineless, in_none, in_ready, in_clock, in_device}
use Rattle.audit.specs.Tests.{fits, astray, home, runs_alone, unheard, names_live, parent_found, place_test, desk_test, Homes, Index}
use Rattle.audit.specs.Alone.{fit_of, named, home_none, no_line, found}

-- (`ends` is what the walks from parent to parent have told: in the rules' words, which take a Sound nucleus, with a byte for each parent.)
module _ (strict : Bool) (m : Model) (sized : length m.threads ≡ places) (lined : length m.lines ≡ line_count) (at who : List ℕ) (W : Homes m at) (X : Index m who)
    (bounds : (p : ℕ) → ((thread m p).word < 2 ^ 32) × ((thread m p).answer < 2 ^ 32))
    (good : (p : ℕ) → p < places → place_test strict m at who p ≡ true) (desk : desk_test m ≡ true)
    (ends : Sound m → ((p : ℕ) → (thread m p).parent ≤ nobody) → (p : ℕ) → p < places → (k : ℕ) × (climb (above m) k p ≡ none)) where
  fit : (p : ℕ) → Fit (thread m p)
  fit p = fit_of (thread m p) (elim (dec_lt p places) [ yes h ↦ and_left (fits (thread m p)) _ (good p h) | no h ↦ rw (out m sized p (omega arith)) ]) (bounds p)

  -- the place where the partner of the thread at p lives, if it does
  abbrev met : ℕ → ℕ
  met p = get_or who (thread m p).partner 0

  good₁ : (p : ℕ) → p < places → runs_alone m.running p (thread m p) && (eqb (get_or at p 0) (home who (thread m p)) && (unheard (thread m (met p)) (thread m p) && (names_live strict (met p) (thread m p) && parent_found who (thread m p)))) ≡ true
  good₁ p h = and_right (fits (thread m p)) _ (good p h)

  good₂ : (p : ℕ) → p < places → eqb (get_or at p 0) (home who (thread m p)) && (unheard (thread m (met p)) (thread m p) && (names_live strict (met p) (thread m p) && parent_found who (thread m p))) ≡ true
  good₂ p h = and_right (runs_alone m.running p (thread m p)) _ (good₁ p h)

  at_home : (p : ℕ) → p < places → get_or at p 0 ≡ home who (thread m p)
  at_home p h = eqb-true _ _ (and_left (eqb (get_or at p 0) (home who (thread m p))) _ (good₂ p h))

  good₃ : (p : ℕ) → p < places → unheard (thread m (met p)) (thread m p) && (names_live strict (met p) (thread m p) && parent_found who (thread m p)) ≡ true
  good₃ p h = and_right (eqb (get_or at p 0) (home who (thread m p))) _ (good₂ p h)

  silent : (p : ℕ) → p < places → unheard (thread m (met p)) (thread m p) ≡ true
  silent p h = and_left (unheard (thread m (met p)) (thread m p)) _ (good₃ p h)

  good₄ : (p : ℕ) → p < places → names_live strict (met p) (thread m p) && parent_found who (thread m p) ≡ true
  good₄ p h = and_right (unheard (thread m (met p)) (thread m p)) _ (good₃ p h)

  -- nobody is astray: the partner is found
  partner : (p : ℕ) → Sending ≤ (thread m p).standing → (thread m p).standing ≤ Awaiting → get_or who (thread m p).partner 0 < places
  partner p i j =
      let h = inside m sized p (λ z. omega arith) in
      let a = at_home p h in
      let s = W.sure p h in
      elim (dec_lt (get_or who (thread m p).partner 0) places) [
        | yes l ↦ l
        | no l ↦ absurd (
            let z : home who (thread m p) ≡ astray = stray (thread m p) i j (le-ltb (get_or who (thread m p).partner 0) places (omega arith)) in
            let y = s (λ n. omega arith) in
            omega arith)
      ]
    where
      stray : (t : Thread) → Sending ≤ t.standing → t.standing ≤ Awaiting → ltb (get_or who t.partner 0) places ≡ false → home who t ≡ astray
      stray t i j e = elim (ℕ_discrete t.standing Sending) [
        | yes z ↦ rw (z, e)
        | no k ↦ let z : t.standing ≡ Awaiting = omega arith in rw (z, e)
      ]

  lives_there : (p : ℕ) → Sending ≤ (thread m p).standing → (thread m p).standing ≤ Awaiting
      → ((thread m (get_or who (thread m p).partner 0)).standing ≢ Empty) × ((thread m (get_or who (thread m p).partner 0)).number ≡ (thread m p).partner)
  lives_there p i j =
      let l = partner p i j in
      let low = named (thread m p) ((fit p).table (λ z. omega arith)) i j in
      let b = X.back (thread m p).partner (omega arith) (λ z. omega arith) in
      (b.1, b.2)

  -- a sender's home is the inbox of its partner's place, and no other
  sender_home : (p : ℕ) → (thread m p).standing ≡ Sending → home who (thread m p) ≡ inbox (get_or who (thread m p).partner 0)
  sender_home p z = rw (z, lt-ltb _ _ (partner p (omega arith) (omega arith)))

  sender_belongs : (p : ℕ) → (thread m p).standing ≡ Sending → (q : ℕ) → eqb (home who (thread m p)) q ≡ belongs m (thread m p) q
  sender_belongs p z =
      let c = get_or who (thread m p).partner 0 in
      let h : (q : ℕ) → eqb (home who (thread m p)) q ≡ eqb (inbox c) q = λ q. ap (λ (x : ℕ). eqb x q) (sender_home p z) in
      by_line (λ q. eqb (home who (thread m p)) q ≡ belongs m (thread m p) q)
      (h ready ∙ rw z (ne_eqb (inbox c) ready (omega arith)))
      (h clock ∙ rw z (ne_eqb (inbox c) clock (omega arith)))
      (λ i low. h (device i) ∙ ne_eqb (inbox c) (device i) (omega arith) ∙ sym (at_device m (thread m p) i low ∙ rw z))
      (λ r. h (inbox r) ∙ same_inbox r ∙ sym (at_inbox m (thread m p) r ∙ rw z))
    where
      same_inbox : (r : ℕ) → eqb (inbox (get_or who (thread m p).partner 0)) (inbox r) ≡ eqb (thread m p).partner (thread m r).number
      same_inbox r =
          let v = lives_there p (omega arith) (omega arith) in
          let low : (thread m p).partner ≤ last_number = named (thread m p) ((fit p).table (λ y. omega arith)) (omega arith) (omega arith) in
          elim (ℕ_discrete (get_or who (thread m p).partner 0) r) [
            | yes e ↦ eq-eqb (inbox (get_or who (thread m p).partner 0)) (inbox r) (ap inbox e) ∙ sym (eq-eqb (thread m p).partner (thread m r).number (sym (rw e at v.1)))
            | no k ↦ ne_eqb (inbox (get_or who (thread m p).partner 0)) (inbox r) (λ y. k (omega arith)) ∙ sym (ne_eqb (thread m p).partner (thread m r).number (λ y.
                k (found m sized X r (thread m p).partner (numbered (fit r) (omega arith)) (sym y))))
          ]

  -- one that waits at a device waits at one of the indexes, and that device's queue is its home
  waiter : (p : ℕ) → (thread m p).standing ≡ AtDevice → (thread m p).partner < devices
  waiter p z =
      let t : as_table AtDevice (thread m p).partner (thread m p).word ≡ true = rw z at ((fit p).table (λ y. omega arith)) in
      ltb-true _ _ (and_left (ltb (thread m p).partner devices) _ t)

  waiter_home : (p : ℕ) → (thread m p).standing ≡ AtDevice → home who (thread m p) ≡ device (thread m p).partner
  waiter_home p z = rw (z, lt-ltb _ _ (waiter p z))

  -- each line holds those who belong there
  stood : (p q : ℕ) → count p (line m q) ≡ bit (belongs m (thread m p) q)
  stood p q = elim (dec_lt p places) [
    | no k ↦ W.beyond p q (omega arith) ∙ sym (rw (out m sized p (omega arith)) (ap bit (in_none m vacant (omega arith) q)))
    | yes h ↦ elim (dec_lt q line_count) [
      | no l ↦ rw (no_line m lined q (omega arith)) (past q (omega arith))
      | yes l ↦ W.within p q h l ∙ ap bit (ap (λ (x : ℕ). eqb x q) (at_home p h) ∙ belonging q l)
    ]
  ]
    where
      -- nobody sends to a place past the last
      no_sender : (r : ℕ) → places ≤ r → eqb (thread m p).standing Sending && eqb (thread m p).partner (thread m r).number ≡ false
      no_sender r h = elim (ℕ_discrete (thread m p).standing Sending) [
        | no k ↦ rw (ne_eqb (thread m p).standing Sending k)
        | yes z ↦
            let low = named (thread m p) ((fit p).table (λ y. omega arith)) (omega arith) (omega arith) in
            rw (out m sized r (omega arith), ne_eqb (thread m p).partner nobody (omega arith), z)
      ]

      past : (q : ℕ) → line_count ≤ q → 0 ≡ bit (belongs m (thread m p) q)
      past =
          by_line (λ q. line_count ≤ q → 0 ≡ bit (belongs m (thread m p) q)) (λ h. absurd (omega arith)) (λ h. absurd (omega arith)) (λ i low h. absurd (omega arith))
          (λ r h. sym (ap bit (at_inbox m (thread m p) r ∙ no_sender r (omega arith))))

      elsewhere : (q : ℕ) → q < line_count → Lineless (thread m p).standing → home who (thread m p) ≡ none → eqb (home who (thread m p)) q ≡ belongs m (thread m p) q
      elsewhere q l k e = rw e (ne_eqb none q (omega arith) ∙ sym (in_none m (thread m p) k q))

      turned : (a b : ℕ) → eqb a b ≡ eqb b a
      turned a b = elim (ℕ_discrete a b) [
        | yes e ↦ eq-eqb a b e ∙ sym (eq-eqb b a (sym e))
        | no n ↦ ne_eqb a b n ∙ sym (ne_eqb b a (λ e. n (sym e)))
      ]

      belonging : (q : ℕ) → q < line_count → eqb (home who (thread m p)) q ≡ belongs m (thread m p) q
      belonging q l = elim (ℕ_discrete (thread m p).standing Ready) [
        | yes z ↦ let e : home who (thread m p) ≡ ready = rw z in ap (λ (x : ℕ). eqb x q) e ∙ turned ready q ∙ sym (in_ready m (thread m p) z q)
        | no a ↦ elim (ℕ_discrete (thread m p).standing Waiting) [
          | yes z ↦ let e : home who (thread m p) ≡ clock = rw z in ap (λ (x : ℕ). eqb x q) e ∙ turned clock q ∙ sym (in_clock m (thread m p) z q)
          | no c ↦ elim (ℕ_discrete (thread m p).standing Sending) [
            | yes z ↦ sender_belongs p z q
            | no b ↦ elim (ℕ_discrete (thread m p).standing AtDevice) [
              | yes z ↦ ap (λ (x : ℕ). eqb x q) (waiter_home p z) ∙ turned (device (thread m p).partner) q ∙ sym (in_device m (thread m p) z (thread m p).partner refl (waiter p z) q)
              | no f ↦ elim (ℕ_discrete (thread m p).standing Awaiting) [
                | yes z ↦ elsewhere q l (a, b, c, f) (rw (z, lt-ltb (get_or who (thread m p).partner 0) places (partner p (omega arith) (omega arith))))
                | no d ↦ elsewhere q l (a, b, c, f) (home_none who (thread m p) (a, b, c, f) d)
              ]
            ]
          ]
        ]
      ]

  -- whoever sends to r is not one that r is waiting to hear
  deaf : (r p : ℕ) → (thread m p).standing ≡ Sending → (thread m p).partner ≡ (thread m r).number → hears (thread m r) (thread m p).number ≡ false
  deaf r p z n =
      let low : (thread m p).partner ≤ last_number = named (thread m p) ((fit p).table (λ y. omega arith)) (omega arith) (omega arith) in
      let f = found m sized X r (thread m p).partner (numbered (fit r) (omega arith)) (sym n) in
      not-true _ (rw (f, z) at (silent p (inside m sized p (λ y. omega arith))))

  differ : (p r : ℕ) → (thread m p).standing ≢ Empty → (thread m p).number ≡ (thread m r).number → p ≡ r
  differ p r k e =
      let low = (fit p).number k in
      sym (found m sized X p (thread m p).number k refl) ∙ found m sized X r (thread m p).number (numbered (fit r) (omega arith)) (sym e)

  steady : Sound m
  steady = record {
    threads = sized;
    lines = lined;
    last = leb-true _ _ (and_left (is_number m.last) _ desk);
    fits = fit;
    differ = differ;
    alone = λ p z. eqb-true _ _ (rw z at (and_left (runs_alone m.running p (thread m p)) _ (good₁ p (inside m sized p (λ y. omega arith)))));
    busy = λ k. eqb-true _ _ (rw (ne_eqb m.running none k) at (and_right (is_number m.last) _ desk));
    served = λ p i j. let v = lives_there p i j in (get_or who (thread m p).partner 0, v.0, v.1);
    deaf = deaf;
    stood = stood;
  }

  -- a parent is nobody, or a number that is found
  named_parent : (p : ℕ) → p < places → (thread m p).parent ≢ nobody → ((thread m p).parent ≤ last_number) × (get_or who (thread m p).parent 0 < places)
  named_parent p h k =
      let t : is_number (thread m p).parent && ltb (get_or who (thread m p).parent 0) places ≡ true =
      rw (ne_eqb (thread m p).parent nobody k) at (and_right (names_live strict (met p) (thread m p)) _ (good₄ p h)) in
      (leb-true _ _ (and_left (is_number (thread m p).parent) _ t), ltb-true _ _ (and_right (is_number (thread m p).parent) _ t))

  low_parent : (p : ℕ) → (thread m p).parent ≤ nobody
  low_parent p = elim (dec_lt p places) [
    | no h ↦ rw (out m sized p (omega arith)) (omega arith)
    | yes h ↦ elim (ℕ_discrete (thread m p).parent nobody) [ yes z ↦ omega arith | no k ↦ let v = (named_parent p h k).0 in omega arith ]
  ]

  kin : Kin m
  kin = record {
    parented = λ p h k.
        let v = named_parent p (inside m sized p h) k in
        let b = X.back (thread m p).parent (low_parent p) (λ z. omega (arith, v.1)) in
        (get_or who (thread m p).parent 0, b.1, b.2);
    rooted = λ p h. ends steady low_parent p (inside m sized p h);
  }

  nil : (l : List ℕ) → is_nil l ≡ true → l ≡ []
  nil [] e = refl
  nil (x ∷ l) e = never refl (sym e)

  old : OldConsistent m
  old = old_whole m steady (λ z. nil (line m ready) (rw (eq-eqb m.running none z) at (and_right (is_number m.last) _ desk))) kin

  -- whom a receiver names is found
  listens : strict ≡ true → ListensToLive m
  listens e p five k =
      let t : names_live strict (met p) (thread m p) ≡ true = and_left (names_live strict (met p) (thread m p)) _ (good₄ p (inside m sized p (λ z. omega arith))) in
      let l : met p < places = ltb-true _ _ (rw (e, five, ne_eqb (thread m p).partner nobody k) at t) in
      let r : as_table Receiving (thread m p).partner (thread m p).word ≡ true = rw five at ((fit p).table (λ z. omega arith)) in
      let a : is_number (thread m p).partner || false ≡ true = rw (ne_eqb (thread m p).partner nobody k) at (and_left (is_number (thread m p).partner || eqb (thread m p).partner nobody) _ r) in
      let low : (thread m p).partner ≤ last_number = leb-true _ _ (sym (or-false (is_number (thread m p).partner)) ∙ a) in
      let b = X.back (thread m p).partner (omega arith) (λ z. omega arith) in
      (met p, b.1, b.2)

  judged_by : (b : Bool) → strict ≡ b → ConsistentBy b m
  judged_by true e = record { old = old; listens = listens e }
  judged_by false e = old

  pub judged : ConsistentBy strict m
  judged = judged_by strict refl
