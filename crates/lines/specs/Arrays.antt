-- Arrays and their lines: what an array of given lines is, that it is the only one, and that one line can be made anew by itself. Assumes nothing.
use Rattle.std.specs.Prelude.{◌≡◌, refl, List, true, false, ℕ, ◌+◌, ◌-◌, ◌≤◌, ◌<◌, eqb, ltb, length, get_or}
use Rattle.std.proofs.Common.{sym, ◌∙◌, ⊎_elim, arith, eq-eqb, ne_eqb, eqb-true, ltb-true, ltb-false, ext_get_or}
use Rattle.std.proofs.lemmas.Bool.{eqb-false}
use Rattle.lists.specs.Lists.{none, among, Distinct, front}
use Rattle.lists.specs.Laws.{by_test, never, find}
use Rattle.lists.specs.Without.{pigeon}
use Rattle.lines.specs.Lines.{line_of, Loose, Path, last_cell, Is, Tidy, Turned, upd}
use Rattle.lines.specs.Walks.{path_same, path_high, path_front, path_start, path_agree, path_distinct, path_walk}

-- lines that are apart stay so where line q is made anew, of numbers that stand in no other line
pub apart_upd : (n : ℕ) (ls : ℕ → List ℕ) (q : ℕ) (new : List ℕ)
    → ((a r x : ℕ) → a < n → r < n → (a ≡ q → ⊥) → (r ≡ q → ⊥) → (a ≡ r → ⊥) → among x (ls a) ≡ true → among x (ls r) ≡ false)
    → ((r x : ℕ) → r < n → (r ≡ q → ⊥) → among x new ≡ true → among x (ls r) ≡ false)
    → (a r x : ℕ) → a < n → r < n → (a ≡ r → ⊥) → among x (upd ls q new a) ≡ true → among x (upd ls q new r) ≡ false
apart_upd n ls q new f g a r x ha hr ne h =
    by_test (eqb a q)
    (λ e.
    let t = eqb-true a q e in
    by_test (eqb r q)
    (λ u. let v = eqb-true r q u in absurd (ne (t ∙ sym v)))
    (λ u. rw u (g r x hr (eqb-false r q u) (rw e at h))))
    (λ e.
    by_test (eqb r q)
    (λ u. rw u (by_test (among x new) (λ t. never (rw e at h) (g a x ha (eqb-false a q e) t)) (λ t. t)))
    (λ u. rw u (f a r x ha hr (eqb-false a q e) (eqb-false r q u) ne (rw e at h))))

module _ (P N : ℕ) (small : P ≤ none) where
  -- the lines that an array is that of are those that are read off it
  pub is_short : (l : List ℕ) (ls : ℕ → List ℕ) → Is P N l ls → (q : ℕ) → q < N → length (ls q) ≤ P
  is_short l ls k q h =
      let w = k.linked q h in
      pigeon P (ls q) (λ i g. path_high P l (P + q) (ls q) none i w g) (path_distinct P small l (P + q) (ls q) w)

  pub is_line_lem : (l : List ℕ) (ls : ℕ → List ℕ) → Is P N l ls → (q : ℕ) → q < N → line_of P l q ≡ ls q
  is_line_lem l ls k q h = path_walk P small P l (P + q) (ls q) (k.linked q h) (is_short l ls k q h)

  pub is_ext : (l : List ℕ) (ls ms : ℕ → List ℕ) → ((q : ℕ) → q < N → ls q ≡ ms q) → Is P N l ls → Is P N l ms
  is_ext l ls ms e k = record {
    whole = k.whole;
    linked = λ q h. rw (← e q h) (k.linked q h);
    tails = λ q h. rw (← e q h) (k.tails q h);
    apart = λ q r x h g n a. rw (← e r g) (k.apart q r x h g n (rw (← e q h) at a));
    canon = λ p h f. k.canon p h (λ q g. rw (e q g) (f q g));
  }

  pub is_tidy : (l : List ℕ) (ls : ℕ → List ℕ) → Is P N l ls → Tidy P N l
  is_tidy l ls k = is_ext l ls (line_of P l) (λ q h. sym (is_line_lem l ls k q h)) k

  -- no place stands twice in a line
  pub once : (l : List ℕ) → Tidy P N l → (q : ℕ) → q < N → Distinct (line_of P l q)
  once l k q h = path_distinct P small l (P + q) (line_of P l q) (k.linked q h)

  -- two arrays of the same lines are equal
  pub unique : (l m : List ℕ) → Tidy P N l → Tidy P N m → ((q : ℕ) → q < N → line_of P l q ≡ line_of P m q) → l ≡ m
  unique l m k h e = ext_get_or 0 l m (k.whole ∙ sym h.whole) at_cell
    where
      h' : Is P N m (line_of P l)
      h' = is_ext m (line_of P m) (line_of P l) (λ q g. sym (e q g)) h

      place : (i : ℕ) → i < P → get_or l i 0 ≡ get_or m i 0
      place i b =
          ⊎_elim
          (λ w. path_agree P l m (P + w.0) (line_of P l w.0) none i (k.linked w.0 w.1) (h'.linked w.0 w.1) w.2)
          (λ w. k.canon i b w ∙ sym (h'.canon i b w))
          (find (λ q. among i (line_of P l q)) N)

      head : (q : ℕ) → q < N → get_or l (P + q) 0 ≡ get_or m (P + q) 0
      head q b = path_start P l m (P + q) (line_of P l q) none (k.linked q b) (h'.linked q b)

      tail : (q : ℕ) → q < N → get_or l (P + N + q) 0 ≡ get_or m (P + N + q) 0
      tail q b = k.tails q b ∙ sym (h'.tails q b)

      at_cell : (i : ℕ) → i < length l → get_or l i 0 ≡ get_or m i 0
      at_cell i b =
          let w = k.whole in
          by_test (ltb i P)
          (λ t. place i (ltb-true i P t))
          (λ t.
          let u = ltb-false i P t in
          by_test (ltb i (P + N))
          (λ s.
          let v = ltb-true i (P + N) s in
          let f : P + (i - P) ≡ i = omega arith in
          rw f at (head (i - P) (omega arith)))
          (λ s.
          let v = ltb-false i (P + N) s in
          let f : P + N + (i - (P + N)) ≡ i = omega arith in
          rw f at (tail (i - (P + N)) (omega arith))))

  -- ---- one line is made anew, and the other cells stay
  module _ (l m : List ℕ) (ls : ℕ → List ℕ) (k : Is P N l ls) (q : ℕ) (b : q < N) (new : List ℕ)
      (len : length m ≡ length l)
      (link : Path P m (P + q) new none)
      (tail : get_or m (P + N + q) 0 ≡ last_cell none new)
      (same : (i : ℕ) → (i ≡ P + q → ⊥) → (i ≡ P + N + q → ⊥) → among i (ls q) ≡ false → among i new ≡ false → get_or m i 0 ≡ get_or l i 0)
      (fresh : (i r : ℕ) → r < N → (r ≡ q → ⊥) → among i new ≡ true → among i (ls r) ≡ false)
      (out : (i : ℕ) → i < P → among i (ls q) ≡ true → among i new ≡ false → get_or m i 0 ≡ none) where
    -- what stands in another line stands in neither the old nor the new
    not_old : (i r : ℕ) → r < N → (r ≡ q → ⊥) → among i (ls r) ≡ true → among i (ls q) ≡ false
    not_old i r h n g = k.apart r q i h b n g

    not_new : (i r : ℕ) → r < N → (r ≡ q → ⊥) → among i (ls r) ≡ true → among i new ≡ false
    not_new i r h n g = by_test (among i new) (λ t. never g (fresh i r h n t)) (λ t. t)

    -- a cell of no place
    high : (i : ℕ) → P ≤ i → (i ≡ P + q → ⊥) → (i ≡ P + N + q → ⊥) → get_or m i 0 ≡ get_or l i 0
    high i h x y = same i x y (path_high P l (P + q) (ls q) none i (k.linked q b) h) (path_high P m (P + q) new none i link h)

    upd_linked : (r : ℕ) → r < N → Path P m (P + r) (upd ls q new r) none
    upd_linked r h =
        by_test (eqb r q)
        (λ e. rw e (let t : r ≡ q = eqb-true r q e in rw t link))
        (λ e.
        let n = eqb-false r q e in
        rw e (path_same P l m (P + r) (ls r) none
        (high (P + r) (omega arith) (omega arith) (omega arith))
        (λ i s g. same i (omega arith) (omega arith) (not_old i r h n g) (not_new i r h n g))
        (k.linked r h)))

    upd_tails : (r : ℕ) → r < N → get_or m (P + N + r) 0 ≡ last_cell none (upd ls q new r)
    upd_tails r h =
        by_test (eqb r q)
        (λ e. rw e (let t : r ≡ q = eqb-true r q e in rw t tail))
        (λ e. let n = eqb-false r q e in rw e (high (P + N + r) (omega arith) (omega arith) (omega arith) ∙ k.tails r h))

    upd_apart : (a c x : ℕ) → a < N → c < N → (a ≡ c → ⊥) → among x (upd ls q new a) ≡ true → among x (upd ls q new c) ≡ false
    upd_apart = apart_upd N ls q new (λ a r x ha hr na nr n g. k.apart a r x ha hr n g) (λ r x h n g. fresh x r h n g)

    upd_canon : (p : ℕ) → p < P → Loose N (upd ls q new) p → get_or m p 0 ≡ none
    upd_canon p h f =
        let g : among p new ≡ false = rw (eq-eqb q q refl) at (f q b) in
        by_test (among p (ls q))
        (λ t. out p h t g)
        (λ t. same p (omega arith) (omega arith) t g ∙ k.canon p h (λ r s. by_test (eqb r q) (λ e. let u : r ≡ q = eqb-true r q e in rw u t) (λ e. rw e at (f r s))))

    pub is_upd : Is P N m (upd ls q new)
    is_upd = record { whole = len ∙ k.whole; linked = upd_linked; tails = upd_tails; apart = upd_apart; canon = upd_canon }

-- ---- what an operation does
module _ {P N : ℕ} {l : List ℕ} (k : Tidy P N l) {q : ℕ} where
  pub is_turned : q < N → P ≤ none → (m new : List ℕ) → Is P N m (upd (line_of P l) q new) → Turned P N l m q new
  is_turned b small m new w = record {
    tidy = is_tidy P N small m (upd (line_of P l) q new) w;
    here = is_line_lem P N small m (upd (line_of P l) q new) w q b ∙ rw (eq-eqb q q refl);
    others = λ r h n. is_line_lem P N small m (upd (line_of P l) q new) w r h ∙ rw (ne_eqb r q n);
  }

  -- nothing at all
  pub turned_not : Turned P N l l q (line_of P l q)
  turned_not = record { tidy = k; here = refl; others = λ r h n. refl }

  -- what a line's own cell holds
  pub first_is : q < N → get_or l (P + q) 0 ≡ front (line_of P l q)
  first_is b = path_front P l (P + q) (line_of P l q) (k.linked q b)
