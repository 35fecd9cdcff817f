-- The search for a place along its line. Assumes nothing.
use Rattle.std.specs.Prelude.{◌≡◌, refl, List, [], ◌∷◌, ◌++◌, false, ℕ, suc, ◌+◌, ◌≤◌, ◌<◌, length, get_or}
use Rattle.std.proofs.Common.{sym, ap, ◌∙◌, append_assoc, append-nil, arith, length-append}
use Rattle.lists.specs.Lists.{none, among, rest}
use Rattle.lists.specs.Laws.{not_cons, not_append}
use Rattle.lines.specs.Lines.{walk, line_of, Path, Tidy}
use Rattle.lines.specs.Steps.{Behind, Walked}
use Rattle.lines.specs.Walks.{last_append, path_rest, path_fore, path_in, path_walk, path_none, walk_short}

module _ {P N : ℕ} {l : List ℕ} (k : Tidy P N l) {q : ℕ} (b : q < N) (small : P ≤ none) where
  pub walked_start : (p : ℕ) → Walked P l q p (P + q)
  walked_start p = record { fore = []; aft = line_of P l q; split = refl; cell = refl; ahead = k.linked q b; missed = refl }

  module _ {p c : ℕ} (v : Walked P l q p c) where
    pub walked_in : c < P + N
    walked_in = rw v.cell (path_in P (P + N) l (P + q) v.fore _ (path_fore P l (P + q) v.fore v.aft none (rw v.split at (k.linked q b))) (omega arith) (omega arith))

    pub walked_end : get_or l c 0 ≡ none → among p (line_of P l q) ≡ false
    walked_end h =
        let e : v.aft ≡ [] = path_none P small l c v.aft v.ahead h in
        rw (v.split, e, append-nil v.fore) v.missed

    module _ (h : get_or l c 0 ≡ none → ⊥) where
      more : v.aft ≡ get_or l c 0 ∷ rest v.aft
      more = path_rest P l c v.aft v.ahead h

      ahead' : Path P l c (get_or l c 0 ∷ rest v.aft) none
      ahead' = rw more at v.ahead

      pub walked_hit : get_or l c 0 ≡ p → Behind P l q c p
      walked_hit e = record { fore = v.fore; aft = rest v.aft; split = v.split ∙ ap (λ (t : List ℕ). v.fore ++ t) (more ∙ ap (λ (x : ℕ). x ∷ rest v.aft) e); cell = v.cell }

      pub walked_on : (get_or l c 0 ≡ p → ⊥) → Walked P l q p (get_or l c 0)
      walked_on n = record {
        fore = v.fore ++ (get_or l c 0 ∷ []);
        aft = rest v.aft;
        split = v.split ∙ ap (λ (t : List ℕ). v.fore ++ t) more ∙ sym (append_assoc v.fore (get_or l c 0 ∷ []) (rest v.aft));
        cell = sym (last_append (P + q) (get_or l c 0) v.fore []);
        ahead = ahead'.2;
        missed = not_append p v.fore (get_or l c 0 ∷ []) v.missed (not_cons p (get_or l c 0) [] n refl);
      }

      pub walked_less : length (walk P l (get_or l c 0)) < length (walk P l c)
      walked_less =
          let s = walk_short P l (P + q) in
          let n : length (line_of P l q) ≡ length v.fore + length v.aft = ap length v.split ∙ length-append v.fore v.aft in
          let m : length v.aft ≡ suc (length (rest v.aft)) = ap length more in
          let x : walk P l c ≡ v.aft = path_walk P small P l c v.aft v.ahead (omega arith) in
          let y : walk P l (get_or l c 0) ≡ rest v.aft = path_walk P small P l (get_or l c 0) (rest v.aft) ahead'.2 (omega arith) in
          rw (x, y) (omega arith)
