-- A place is cut out of its line: the array of the stores that `cut` makes, and its lines. Assumes nothing.
use Rattle.std.specs.Prelude.{◌≡◌, refl, List, [], ◌∷◌, ◌++◌, true, false, ℕ, ◌+◌, ◌≤◌, ◌<◌, eqb, length, get_or, set}
use Rattle.std.proofs.Common.{sym, ap, ◌∙◌, append-nil, arith, eqb-true, length-set, get_or-set_same, get_or-set_other}
use Rattle.std.proofs.lemmas.Bool.{eqb-false}
use Rattle.lists.specs.Lists.{none, among, Distinct, without, rest}
use Rattle.lists.specs.Laws.{by_test, never, not_head, not_tail, not_cons, not_append, not_left, not_right, distinct_fore, distinct_aft}
use Rattle.lists.specs.Without.{without_at, without_front}
use Rattle.lines.specs.Lines.{line_of, Path, last_cell, Tidy, Turned}
use Rattle.lines.specs.Steps.{Behind}
use Rattle.lines.specs.Walks.{last_not, last_append, path_same, path_high, path_rest, path_place, path_aft, path_fore, path_in, last_high, last_place, path_cut, path_none}
use Rattle.lines.specs.Arrays.{once, is_upd, is_turned, first_is}

module _ {P N : ℕ} {l : List ℕ} (k : Tidy P N l) {q : ℕ} (b : q < N) (small : P ≤ none) where
  module _ {at p : ℕ} (v : Behind P l q at p) where
    abbrev whole : List ℕ
    whole = v.fore ++ (p ∷ v.aft)

    abbrev new : List ℕ
    new = v.fore ++ v.aft

    linked : Path P l (P + q) whole none
    linked = rw v.split at (k.linked q b)

    distinct : Distinct whole
    distinct = rw v.split at (once P N small l k q b)

    pub cut_place : p < P
    cut_place = path_place P l (P + q) v.fore p v.aft linked

    pub cut_in : at < P + N
    cut_in = rw v.cell (path_in P (P + N) l (P + q) v.fore _ (path_fore P l (P + q) v.fore (p ∷ v.aft) none linked) (omega arith) (omega arith))

    -- who is last then
    pub tail_kept : (get_or l p 0 ≡ none → ⊥) → get_or l (P + N + q) 0 ≡ last_cell none new
    tail_kept h =
        let e = path_rest P l p v.aft (path_aft P l (P + q) v.fore p v.aft linked) h in
        k.tails q b ∙ rw (v.split, last_append none p v.fore v.aft, e) (sym (last_append none (get_or l p 0) v.fore (rest v.aft)))

    last_out : get_or l p 0 ≡ none → new ≡ v.fore
    last_out h = rw (path_none P small l p v.aft (path_aft P l (P + q) v.fore p v.aft linked) h) (append-nil v.fore)

    pub tail_low : get_or l p 0 ≡ none → at < P → at ≡ last_cell none new
    tail_low h g =
        rw (last_out h) (v.cell ∙ last_place P (P + q) v.fore (omega arith) (rw v.cell at g))

    pub tail_high : get_or l p 0 ≡ none → P ≤ at → none ≡ last_cell none new
    tail_high h g = rw (last_out h) (last_high P l (P + q) v.fore _ (path_fore P l (P + q) v.fore (p ∷ v.aft) none linked) (rw v.cell at g))

    module _ {t : ℕ} (e : t ≡ last_cell none new) where
      abbrev passed : List ℕ
      passed = set l at (get_or l p 0)

      abbrev ended : List ℕ
      ended = set passed (P + N + q) t

      abbrev cut : List ℕ
      cut = set ended p none

      -- who stands in the new line, and who stood in the old
      p_not : among p new ≡ false
      p_not = not_append p v.fore v.aft (distinct_fore p v.fore v.aft distinct) (distinct_aft p v.fore v.aft distinct)

      old_new : (i : ℕ) → among i whole ≡ false → among i new ≡ false
      old_new i h = not_append i v.fore v.aft (not_left i v.fore (p ∷ v.aft) h) (not_tail i p v.aft (not_right i v.fore (p ∷ v.aft) h))

      new_old : (i : ℕ) → (p ≡ i → ⊥) → among i new ≡ false → among i whole ≡ false
      new_old i n h = not_append i v.fore (p ∷ v.aft) (not_left i v.fore v.aft h) (not_cons i p v.aft n (not_right i v.fore v.aft h))

      own_not : among (P + q) whole ≡ false
      own_not = path_high P l (P + q) whole none (P + q) linked (omega arith)

      -- the six facts of `is_upd`, and the whole
      passed_link : Path P passed (P + q) new none
      passed_link =
          let w = k.whole in
          let g : at < length l = omega (arith, cut_in) in
          let h : last_cell (P + q) v.fore < length l = rw v.cell at g in
          rw v.cell (path_cut P l (P + q) v.fore p v.aft linked distinct own_not h)

      cut_link : Path P cut (P + q) new none
      cut_link =
          let s = cut_place in
          path_same P passed cut (P + q) new none
          (get_or-set_other ended p (P + q) none 0 (omega arith) ∙ get_or-set_other passed (P + N + q) (P + q) t 0 (omega arith))
          (λ i h g. get_or-set_other ended p i none 0 (λ u. never g (rw (← u) at p_not)) ∙ get_or-set_other passed (P + N + q) i t 0 (omega arith))
          passed_link

      cut_same : (i : ℕ) → (i ≡ P + q → ⊥) → (i ≡ P + N + q → ⊥) → among i (line_of P l q) ≡ false → among i new ≡ false → get_or cut i 0 ≡ get_or l i 0
      cut_same i x y h g =
          let o : among i whole ≡ false = rw v.split at h in
          get_or-set_other ended p i none 0 (λ u. not_head i p v.aft (not_right i v.fore (p ∷ v.aft) o) (sym u))
          ∙ get_or-set_other passed (P + N + q) i t 0 y
          ∙ get_or-set_other l at i (get_or l p 0) 0
          (λ u. last_not i (P + q) v.fore (λ z. x (sym z)) (not_left i v.fore (p ∷ v.aft) o) (sym v.cell ∙ sym u))

      cut_fresh : (i r : ℕ) → r < N → (r ≡ q → ⊥) → among i new ≡ true → among i (line_of P l r) ≡ false
      cut_fresh i r h n g =
          by_test (among i (line_of P l q))
          (λ u. k.apart q r i b h (λ z. n (sym z)) u)
          (λ u. never g (old_new i (rw v.split at u)))

      cut_out : (i : ℕ) → i < P → among i (line_of P l q) ≡ true → among i new ≡ false → get_or cut i 0 ≡ none
      cut_out i h g o =
          let w = k.whole in
          let n : length ended ≡ length l = length-set passed (P + N + q) t ∙ length-set l at (get_or l p 0) in
          let s = cut_place in
          by_test (eqb p i)
          (λ u. ap (λ (j : ℕ). get_or cut j 0) (sym (eqb-true p i u)) ∙ get_or-set_same ended p none 0 (omega arith))
          (λ u. never (rw v.split at g) (new_old i (eqb-false p i u) o))

      pub cut_turned : Turned P N l cut q (without p (line_of P l q))
      cut_turned =
          let w = k.whole in
          let s = cut_place in
          let n : length passed ≡ length l = length-set l at (get_or l p 0) in
          let z : without p (line_of P l q) ≡ new = rw v.split (without_at p v.fore v.aft (distinct_fore p v.fore v.aft distinct)) in
          rw z (is_turned k b small cut new
          (is_upd P N small l cut (line_of P l) k q b new
          (length-set ended p none ∙ length-set passed (P + N + q) t ∙ n)
          cut_link
          (get_or-set_other ended p (P + N + q) none 0 (omega arith) ∙ get_or-set_same passed (P + N + q) t 0 (omega arith) ∙ e)
          cut_same
          cut_fresh
          cut_out))

  -- ---- the first is cut out
  pub front_behind : (get_or l (P + q) 0 ≡ none → ⊥) → Behind P l q (P + q) (get_or l (P + q) 0)
  front_behind h = record {
    fore = [];
    aft = rest (line_of P l q);
    split = path_rest P l (P + q) (line_of P l q) (k.linked q b) h;
    cell = refl;
  }

  pub front_without : without (get_or l (P + q) 0) (line_of P l q) ≡ rest (line_of P l q)
  front_without = rw (first_is k b) (without_front (line_of P l q))

  pub line_none : get_or l (P + q) 0 ≡ none → rest (line_of P l q) ≡ line_of P l q
  line_none h = let e : line_of P l q ≡ [] = path_none P small l (P + q) (line_of P l q) (k.linked q b) h in ap rest e ∙ sym e
