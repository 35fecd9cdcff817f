-- A place joins a line: the array of the stores that `join` makes, and its lines. Assumes nothing.
use Rattle.std.specs.Prelude.{◌≡◌, refl, List, [], ◌∷◌, ◌++◌, true, false, ℕ, ◌+◌, ◌≤◌, ◌<◌, eqb, length, get_or, set}
use Rattle.std.proofs.Common.{sym, ◌∙◌, arith, eqb-true, length-set, get_or-set_same, get_or-set_other}
use Rattle.std.proofs.lemmas.Bool.{eqb-false}
use Rattle.lists.specs.Lists.{none, among}
use Rattle.lists.specs.Laws.{by_test, never, not_cons, not_append, not_left}
use Rattle.lines.specs.Lines.{line_of, Loose, Path, last_cell, Tidy, Turned}
use Rattle.lines.specs.Walks.{last_not, last_append, path_same, path_high, path_in, last_some, path_join, last_own, last_high}
use Rattle.lines.specs.Arrays.{once, is_upd, is_turned}

module _ {P N : ℕ} {l : List ℕ} (k : Tidy P N l) {q : ℕ} (b : q < N) (small : P ≤ none) where
  -- the cell to write: the line's own where the line is empty, and else its last place
  pub join_own : get_or l (P + N + q) 0 ≡ none → P + q ≡ last_cell (P + q) (line_of P l q)
  join_own h = last_own P small l (P + q) (line_of P l q) (k.linked q b) (sym (k.tails q b) ∙ h)

  pub join_some : (get_or l (P + N + q) 0 ≡ none → ⊥) → get_or l (P + N + q) 0 ≡ last_cell (P + q) (line_of P l q)
  join_some h = k.tails q b ∙ last_some P (P + q) (line_of P l q) (λ e. h (k.tails q b ∙ e))

  -- the same, where what is no place is taken for none
  pub hang_own : P ≤ get_or l (P + N + q) 0 → P + q ≡ last_cell (P + q) (line_of P l q)
  hang_own h =
      by_test (eqb (get_or l (P + N + q) 0) none)
      (λ t. join_own (eqb-true _ _ t))
      (λ t.
      let n = eqb-false _ _ t in
      let e = join_some n in
      absurd (n (k.tails q b ∙ sym (last_high P l (P + q) (line_of P l q) none (k.linked q b) (omega arith)))))

  pub hang_some : get_or l (P + N + q) 0 < P → get_or l (P + N + q) 0 ≡ last_cell (P + q) (line_of P l q)
  hang_some h = join_some (λ e. omega arith)

  pub join_in : last_cell (P + q) (line_of P l q) < length l
  join_in =
      let w = k.whole in
      path_in P (length l) l (P + q) (line_of P l q) none (k.linked q b) (omega arith) (omega arith)

  module _ {p : ℕ} (s : p < P) (f : Loose N (line_of P l) p) where
    abbrev old : List ℕ
    old = line_of P l q

    abbrev end : ℕ
    end = last_cell (P + q) old

    abbrev hung : List ℕ
    hung = set l end p

    abbrev joined : List ℕ
    joined = set hung (P + N + q) p

    -- the six facts of `is_upd`, and the whole
    own_not : among (P + q) old ≡ false
    own_not = path_high P l (P + q) old none (P + q) (k.linked q b) (omega arith)

    join_link : Path P joined (P + q) (old ++ (p ∷ [])) none
    join_link =
        path_same P hung joined (P + q) (old ++ (p ∷ [])) none
        (get_or-set_other hung (P + N + q) (P + q) p 0 (omega arith))
        (λ i h g. get_or-set_other hung (P + N + q) i p 0 (omega arith))
        (path_join P l (P + q) old p (k.linked q b) (once P N small l k q b) own_not join_in s (omega arith) (f q b) (k.canon p s f))

    join_same : (i : ℕ) → (i ≡ P + q → ⊥) → (i ≡ P + N + q → ⊥) → among i old ≡ false → among i (old ++ (p ∷ [])) ≡ false → get_or joined i 0 ≡ get_or l i 0
    join_same i x y h g =
        get_or-set_other hung (P + N + q) i p 0 y
        ∙ get_or-set_other l end i p 0 (λ t. last_not i (P + q) old (λ u. x (sym u)) h (sym t))

    join_fresh : (i r : ℕ) → r < N → (r ≡ q → ⊥) → among i (old ++ (p ∷ [])) ≡ true → among i (line_of P l r) ≡ false
    join_fresh i r h n g =
        by_test (among i old)
        (λ t. k.apart q r i b h (λ e. n (sym e)) t)
        (λ t. by_test (eqb p i)
        (λ u. let v : p ≡ i = eqb-true p i u in rw (← v) (f r h))
        (λ u. never g (not_append i old (p ∷ []) t (not_cons i p [] (eqb-false p i u) refl))))

    pub join_turned : Turned P N l joined q (old ++ (p ∷ []))
    join_turned =
        let w = k.whole in
        let wh : length hung ≡ length l = length-set l end p in
        is_turned k b small joined (old ++ (p ∷ []))
        (is_upd P N small l joined (line_of P l) k q b (old ++ (p ∷ []))
        (length-set hung (P + N + q) p ∙ wh)
        join_link
        (get_or-set_same hung (P + N + q) p 0 (omega arith) ∙ sym (last_append none p old []))
        join_same
        join_fresh
        (λ i h t g. never t (not_left i old (p ∷ []) g)))
