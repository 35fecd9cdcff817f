-- Places that are read from the image go into a line, one after the other. Assumes nothing.
use Rattle.std.specs.Prelude.{◌≡◌, refl, List, [], ◌∷◌, ◌++◌, Bool, true, false, ◌≢◌, ℕ, suc, ◌+◌, ◌<◌, eqb, length, take, drop, get_or}
use Rattle.std.proofs.Common.{sym, ap, ◌∙◌, append_assoc, append-nil, add-one, arith, take-suc, take_all, get_or-take, get_or-drop, eqb-true}
use Rattle.std.proofs.Math.Seq.{split_at}
use Rattle.std.proofs.lemmas.Bool.{eqb-false}
use Rattle.lists.specs.Lists.{among, Distinct}
use Rattle.lists.specs.Laws.{by_test, never, not_append, is_head, is_right, distinct_fore}
use Rattle.lines.specs.Lines.{line_of, Loose, Tidy, Turned}
use Rattle.lines.specs.Callers.{loose_kept}
use Rattle.rules.specs.Model.{places, line_count, Model, line}
use Rattle.rules.specs.Consistent.{OldConsistent}
use Rattle.order.specs.Sound.{old_sound}
use Rattle.order.specs.Stood.{stands_at_lem, stands_once, line_distinct}
use Rattle.loading.specs.Reading.{Free, Joined, Filed}

-- ---- one place more

-- who stands at i stands in the list, and not before i
module _ (xs : List ℕ) (i : ℕ) (h : i < length xs) where
  at_among : among (get_or xs i 0) xs ≡ true
  at_among =
      let e = split_at xs i 0 h in
      let x = get_or xs i 0 in
      ap (among x) e ∙ is_right x (take i xs) (x ∷ drop (suc i) xs) (is_head x x (drop (suc i) xs) refl)

  not_before : Distinct xs → among (get_or xs i 0) (take i xs) ≡ false
  not_before d = distinct_fore (get_or xs i 0) (take i xs) (drop (suc i) xs) (rw (split_at xs i 0 h) at d)

-- what `hang` does
abbrev pub Hung : List ℕ → List ℕ → ℕ → ℕ → Type 0
Hung l l' q p = Tidy places line_count l → p < places → Loose line_count (line_of places l) p → Turned places line_count l l' q (line_of places l q ++ (p ∷ []))

turned_more : (l l₁ l₂ : List ℕ) (q i : ℕ) (xs : List ℕ) → q < line_count → i < length xs → Free l xs
    → Turned places line_count l l₁ q (line_of places l q ++ take i xs) → Hung l₁ l₂ q (get_or xs i 0)
    → Turned places line_count l l₂ q (line_of places l q ++ take (suc i) xs)
turned_more l l₁ l₂ q i xs b h f t step =
    let x = get_or xs i 0 in
    let old = line_of places l q in
    let m = at_among xs i h in
    let u = step t.tidy (f.low x m)
    (loose_kept t x (not_append x old (take i xs) (f.loose x m q b) (not_before xs i h f.distinct)) (λ r g n. f.loose x m r g)) in
    record {
      tidy = u.tidy;
      here = u.here ∙ ap (λ (ys : List ℕ). ys ++ (x ∷ [])) t.here ∙ append_assoc old (take i xs) (x ∷ []) ∙ ap (λ (ys : List ℕ). old ++ ys) (sym (take-suc xs i 0 h));
      others = λ r g n. u.others r g n ∙ t.others r g n;
    }

module _ (s : List ℕ) (from n q : ℕ) where
  pub joined_none : (l : List ℕ) → Joined s from n q 0 l l
  joined_none l = record { turned = λ xs e v k f. record { tidy = k; here = sym (append-nil (line_of places l q)); others = λ r h d. refl } }

  pub joined_more : {i : ℕ} {l l₁ l₂ : List ℕ} → q < line_count → i < n → Joined s from n q i l l₁ → Hung l₁ l₂ q (get_or s (from + i) 0) → Joined s from n q (i + 1) l l₂
  joined_more {i} {l} {l₁} {l₂} b h j step = record {
    turned = λ xs e v k f.
        let z : get_or s (from + i) 0 ≡ get_or xs i 0 = sym (get_or-drop from s i 0) ∙ sym (get_or-take n (drop from s) i 0 h) ∙ ap (λ (t : List ℕ). get_or t i 0) e in
        rw add-one (turned_more l l₁ l₂ q i xs b (omega arith) f (j.turned xs e v k f) (rw z at step));
  }

-- ---- a line of m

module _ {m : Model} (C : OldConsistent m) {f : ℕ → Bool} {l : List ℕ} (F : Filed m f l) (q : ℕ) (b : q < line_count) (n : f q ≡ false) where
  free_line : Free l (line m q)
  free_line = record {
    distinct = line_distinct m (old_sound m C) q;
    low = λ x h. stands_at_lem m (old_sound m C) x q h;
    loose = λ x h r g.
        by_test (f r)
        (λ t. let d : r ≢ q = λ e. never t (rw e n) in rw (F.lines r g, t) (stands_once m (old_sound m C) x q r h d))
        (λ t. rw (F.lines r g, t));
  }

  -- it has been read as a whole: g is f, and q
  pub filed_more : {s : List ℕ} {from k : ℕ} {l' : List ℕ} → Joined s from k q k l l' → take k (drop from s) ≡ line m q → k ≡ length (line m q)
      → (g : ℕ → Bool) → g q ≡ true → ((r : ℕ) → (r ≡ q → ⊥) → g r ≡ f r) → Filed m g l'
  filed_more {k = k} {l'} j e v g y o =
      let xs = line m q in
      let t = j.turned xs e (sym v) F.tidy free_line in
      let old : line_of places l q ≡ [] = rw n at (F.lines q b) in
      record {
        tidy = t.tidy;
        lines = λ r h. by_test (eqb r q)
            (λ u.
            let z : r ≡ q = eqb-true r q u in
            rw (z, y) (t.here ∙ ap (λ (ys : List ℕ). ys ++ take k xs) old ∙ take_all k xs (omega arith)))
            (λ u. let z = eqb-false r q u in rw (o r z) (t.others r h z ∙ F.lines r h));
      }
