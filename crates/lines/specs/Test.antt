-- The test whether an array is tidy, turn by turn: what goes on, and what no tidy array has. Assumes nothing.
use Rattle.std.specs.Prelude.{◌≡◌, refl, List, [], ◌∷◌, ◌++◌, true, false, ℕ, zero, suc, ◌+◌, ◌≤◌, ◌<◌, eqb, length, get_or, set, replicate}
use Rattle.std.proofs.Common.{sym, ap, ◌∙◌, add-one, arith, eq-eqb, ne_eqb, eqb-true, length-set, get_or-set_same, get_or-set_other}
use Rattle.std.proofs.lemmas.Bool.{eqb-false}
use Rattle.std.proofs.lemmas.List.{length-replicate, get_or-replicate}
use Rattle.lists.specs.Lists.{none, among, Distinct}
use Rattle.lists.specs.Laws.{by_test, never, not_cons, not_append, is_head, is_left, is_right, distinct_fore}
use Rattle.lines.specs.Lines.{line_of, Loose, Path, last_cell, Tidy, Whereabouts, upd}
use Rattle.lines.specs.Steps.{bare, Marks, DoneUpTo, Scan}
use Rattle.lines.specs.Walks.{last_append, path_place, path_more, path_in, last_high, last_place, path_one, path_on}
use Rattle.lines.specs.Arrays.{apart_upd, is_tidy, once}

-- ---- the marks
pub bare_less : (s : List ℕ) (i : ℕ) → i < length s → get_or s i 0 ≡ none → (q : ℕ) → (q ≡ none → ⊥) → bare (set s i q) < bare s
bare_less [] i h e q n = absurd (omega arith)
bare_less (x ∷ s) zero h e q n = rw (eq-eqb x none e, ne_eqb q none n) (omega arith)
bare_less (x ∷ s) (suc i) h e q n =
    let ih = bare_less s i (omega arith) e q n in
    by_test (eqb x none) (λ t. rw t (omega arith)) (λ t. rw t ih)

module _ {P N : ℕ} {l : List ℕ} where
  pub done_none : {s : List ℕ} → s ≡ replicate P none → DoneUpTo P N l s 0
  done_none {s} e = record {
    ls = λ q. [];
    room = ap length e ∙ length-replicate P none;
    linked = λ r h. absurd (omega arith);
    tails = λ r h. absurd (omega arith);
    apart = λ a r x h. absurd (omega arith);
    marks = λ p h. (λ g q b. absurd (omega arith), λ g. absurd (g (rw e (get_or-replicate P p none 0 h))));
  }

  -- line q is begun
  pub scan_start : {s : List ℕ} {q : ℕ} → DoneUpTo P N l s q → Scan P N l s q (P + q)
  scan_start {s} {q} k = record {
    ls = upd k.ls q [];
    room = k.room;
    linked = λ r h. rw (ne_eqb r q (omega arith)) (k.linked r h);
    tails = λ r h. rw (ne_eqb r q (omega arith)) (k.tails r h);
    apart = apart_upd (suc q) k.ls q [] (λ a r x ha hr na nr ne h. k.apart a r x (omega arith) (omega arith) ne h) (λ r x hr nr h. never h refl);
    marks = λ p b. (
      λ g r h. by_test (eqb r q) (λ e. rw e) (λ e. let n = eqb-false r q e in rw e ((k.marks p b).0 g r (omega arith))),
      λ g. let w = (k.marks p b).1 g in (omega (arith, w.0), (let n : get_or s p 0 ≡ q → ⊥ = omega (arith, w.0) in rw (ne_eqb (get_or s p 0) q n) w.1)),
    );
    upto = rw (eq-eqb q q refl) refl;
    cell = rw (eq-eqb q q refl) refl;
  }

  module _ {s : List ℕ} {q c : ℕ} (k : Scan P N l s q c) (b : q < N) (small : P ≤ none) (few : N ≤ none) where
    abbrev x : ℕ
    x = get_or l c 0

    pub scan_in : c < P + N
    scan_in = rw k.cell (path_in P (P + N) l (P + q) (k.ls q) x k.upto (omega arith) (omega arith))

    -- a step: x is a place that has no mark
    module _ (h : x < P) (g : get_or s x 0 ≡ none) where
      abbrev more : List ℕ
      more = k.ls q ++ (x ∷ [])

      new_loose : (r : ℕ) → r < suc q → among x (k.ls r) ≡ false
      new_loose = (k.marks x h).0 g

      step_apart : (a r y : ℕ) → a < suc q → r < suc q → (a ≡ r → ⊥) → among y (upd k.ls q more a) ≡ true → among y (upd k.ls q more r) ≡ false
      step_apart =
          apart_upd (suc q) k.ls q more
          (λ a r y ha hr na nr ne w. k.apart a r y ha hr ne w)
          (λ r y hr nr w.
          by_test (among y (k.ls q))
          (λ t. k.apart q r y (omega arith) hr (λ e. nr (sym e)) t)
          (λ t. by_test (eqb x y)
          (λ u. let v : x ≡ y = eqb-true x y u in ap (λ (j : ℕ). among j (k.ls r)) (sym v) ∙ new_loose r hr)
          (λ u. never w (not_append y (k.ls q) (x ∷ []) t (not_cons y x [] (eqb-false x y u) refl)))))

      marked : get_or (set s x q) x 0 ≡ q
      marked = let w = k.room in get_or-set_same s x q 0 (omega arith)

      step_marks : Marks P (set s x q) (suc q) (upd k.ls q more)
      step_marks p d = (unmarked, with_mark)
        where
          unmarked : get_or (set s x q) p 0 ≡ none → Loose (suc q) (upd k.ls q more) p
          unmarked e r hr =
              let n : p ≡ x → ⊥ = λ u. (let z : q ≡ get_or (set s x q) p 0 = sym marked ∙ ap (λ (j : ℕ). get_or (set s x q) j 0) (sym u) in omega arith) in
              let o : Loose (suc q) k.ls p = (k.marks p d).0 (sym (get_or-set_other s x p q 0 n) ∙ e) in
              by_test (eqb r q)
              (λ u. rw u (not_append p (k.ls q) (x ∷ []) (o q (omega arith)) (not_cons p x [] (λ v. n (sym v)) refl)))
              (λ u. rw u (o r hr))

          kept : (r : ℕ) → among p (k.ls r) ≡ true → among p (upd k.ls q more r) ≡ true
          kept r h =
              by_test (eqb r q)
              (λ v. let y : r ≡ q = eqb-true r q v in rw v (is_left p (k.ls q) (x ∷ []) (ap (λ (j : ℕ). among p (k.ls j)) (sym y) ∙ h)))
              (λ v. rw v h)

          with_mark : (get_or (set s x q) p 0 ≡ none → ⊥) → (get_or (set s x q) p 0 < suc q) × (among p (upd k.ls q more (get_or (set s x q) p 0)) ≡ true)
          with_mark e =
              by_test (eqb p x)
              (λ u.
              let y : p ≡ x = eqb-true p x u in
              let z : get_or (set s x q) p 0 ≡ q = ap (λ (j : ℕ). get_or (set s x q) j 0) y ∙ marked in
              (omega arith, rw (z, eq-eqb q q refl) (is_right p (k.ls q) (x ∷ []) (is_head p x [] (sym y)))))
              (λ u.
              let o = get_or-set_other s x p q 0 (eqb-false p x u) in
              let w = (k.marks p d).1 (λ z. e (o ∙ z)) in
              (omega (arith, w.0), rw o (kept (get_or s p 0) w.1)))

      pub scan_step : Scan P N l (set s x q) q x
      scan_step = record {
        ls = upd k.ls q more;
        room = length-set s x q ∙ k.room;
        linked = λ r d. rw (ne_eqb r q (omega arith)) (k.linked r d);
        tails = λ r d. rw (ne_eqb r q (omega arith)) (k.tails r d);
        apart = step_apart;
        marks = step_marks;
        upto = rw (eq-eqb q q refl) (path_more P l (P + q) (k.ls q) x k.upto h);
        cell = rw (eq-eqb q q refl) (sym (last_append (P + q) x (k.ls q) []));
      }

    -- line q is whole
    done_step : x ≡ none → get_or l (P + N + q) 0 ≡ last_cell none (k.ls q) → DoneUpTo P N l s (q + 1)
    done_step e t = rw add-one (record {
      ls = k.ls;
      room = k.room;
      linked = λ r h. by_test (eqb r q) (λ u. let v : r ≡ q = eqb-true r q u in rw v (rw e at k.upto)) (λ u. let v = eqb-false r q u in k.linked r (omega arith));
      tails = λ r h. by_test (eqb r q) (λ u. let v : r ≡ q = eqb-true r q u in rw v t) (λ u. let v = eqb-false r q u in k.tails r (omega arith));
      apart = k.apart;
      marks = k.marks;
    })

    pub done_high : x ≡ none → P ≤ c → get_or l (P + N + q) 0 ≡ none → DoneUpTo P N l s (q + 1)
    done_high e h t = done_step e (t ∙ last_high P l (P + q) (k.ls q) x k.upto (rw k.cell at h))

    pub done_place : x ≡ none → c < P → get_or l (P + N + q) 0 ≡ c → DoneUpTo P N l s (q + 1)
    done_place e h t = done_step e (t ∙ k.cell ∙ last_place P (P + q) (k.ls q) (omega arith) (rw k.cell at h))

    -- ---- what is found that no tidy array has
    module _ (z : Tidy P N l) where
      line_on : (x ≡ none → ⊥) → (ys : List ℕ) × (line_of P l q ≡ k.ls q ++ (x ∷ ys))
      line_on n = path_on P small l (P + q) (k.ls q) (line_of P l q) x k.upto (z.linked q b) n

      pub bad_high : (x ≡ none → ⊥) → P ≤ x → ⊥
      bad_high n h =
          let w = line_on n in
          let d : Path P l (P + q) (k.ls q ++ (x ∷ w.0)) none = rw w.1 at (z.linked q b) in
          let e = path_place P l (P + q) (k.ls q) x w.0 d in
          omega arith

      pub bad_twice : (x ≡ none → ⊥) → x < P → (get_or s x 0 ≡ none → ⊥) → ⊥
      bad_twice n h g =
          let w = line_on n in
          let m = (k.marks x h).1 g in
          let d : Distinct (k.ls q ++ (x ∷ w.0)) = rw w.1 at (once P N small l z q b) in
          by_test (eqb (get_or s x 0) q)
          (λ u. never (ap (λ (j : ℕ). among x (k.ls j)) (sym (eqb-true (get_or s x 0) q u)) ∙ m.1) (distinct_fore x (k.ls q) w.0 d))
          (λ u.
          let r = get_or s x 0 in
          let v = eqb-false r q u in
          let i : r < q = omega (arith, m.0) in
          let o : line_of P l r ≡ k.ls r = path_one P small l (P + r) (line_of P l r) (k.ls r) (z.linked r (omega arith)) (k.linked r i) in
          let t : among x (line_of P l q) ≡ true = rw w.1 (is_right x (k.ls q) (x ∷ w.0) (is_head x x w.0 refl)) in
          never t (z.apart r q x (omega arith) b v (rw o m.1)))

      line_is : x ≡ none → line_of P l q ≡ k.ls q
      line_is e = path_one P small l (P + q) (line_of P l q) (k.ls q) (z.linked q b) (rw e at k.upto)

      pub bad_own : x ≡ none → P ≤ c → (get_or l (P + N + q) 0 ≡ none → ⊥) → ⊥
      bad_own e h n = n (z.tails q b ∙ rw (line_is e) (sym (last_high P l (P + q) (k.ls q) x k.upto (rw k.cell at h))))

      pub bad_last : x ≡ none → c < P → (get_or l (P + N + q) 0 ≡ c → ⊥) → ⊥
      bad_last e h n = n (z.tails q b ∙ rw (line_is e) (sym (k.cell ∙ last_place P (P + q) (k.ls q) (omega arith) (rw k.cell at h))))

  -- ---- the places that stand in no line
  module _ {s : List ℕ} (k : DoneUpTo P N l s N) (small : P ≤ none) where
    all_tidy : length l ≡ P + N + N → ((p : ℕ) → p < P → get_or s p 0 ≡ none → get_or l p 0 ≡ none) → Tidy P N l
    all_tidy w f = is_tidy P N small l k.ls (record {
      whole = w;
      linked = k.linked;
      tails = k.tails;
      apart = k.apart;
      canon = λ p h o.
          by_test (eqb (get_or s p 0) none)
          (λ e. f p h (eqb-true (get_or s p 0) none e))
          (λ e. let m = (k.marks p h).1 (eqb-false (get_or s p 0) none e) in never m.1 (o (get_or s p 0) m.0));
    })

    line_of_lem : Tidy P N l → (r : ℕ) → r < N → line_of P l r ≡ k.ls r
    line_of_lem z r d = path_one P small l (P + r) (line_of P l r) (k.ls r) (z.linked r d) (k.linked r d)

    pub all_known : length l ≡ P + N + N → ((p : ℕ) → p < P → get_or s p 0 ≡ none → get_or l p 0 ≡ none) → N ≤ none → Whereabouts P N l s
    all_known w f few = record { tidy = t; here = here; sure = λ p h n. ((k.marks p h).1 n).0 }
      where
        t : Tidy P N l
        t = all_tidy w f

        here : (p q : ℕ) → p < P → q < N → among p (line_of P l q) ≡ eqb (get_or s p 0) q
        here p q h d =
            rw (line_of_lem t q d) (by_test (eqb (get_or s p 0) none)
            (λ e. let z = eqb-true (get_or s p 0) none e in (k.marks p h).0 z q d ∙ sym (ne_eqb (get_or s p 0) q (omega arith)))
            (λ e.
            let m = (k.marks p h).1 (eqb-false (get_or s p 0) none e) in
            by_test (eqb (get_or s p 0) q)
            (λ u. ap (λ (j : ℕ). among p (k.ls j)) (sym (eqb-true (get_or s p 0) q u)) ∙ m.1 ∙ sym u)
            (λ u. k.apart (get_or s p 0) q p m.0 d (eqb-false (get_or s p 0) q u) m.1 ∙ sym u)))

    pub bad_bare : (p : ℕ) → p < P → get_or s p 0 ≡ none → (get_or l p 0 ≡ none → ⊥) → Tidy P N l → ⊥
    bad_bare p h e n z = n (z.canon p h (λ r d. rw (line_of_lem z r d) ((k.marks p h).0 e r d)))
