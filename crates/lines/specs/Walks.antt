-- Walks from cell to cell, on plain values. Assumes nothing.
use Rattle.std.specs.Prelude.{◌≡◌, true, false, eqb, length, get_or, set}
use Rattle.std.proofs.Math.Path.{refl}
use Rattle.std.proofs.Common.{sym, ap, ap₂, ◌∙◌, arith, eq-eqb, ne_eqb, eqb-true, get_or-set_same, get_or-set_other}
use mathlib.Core.List.{List, [], ◌∷◌, ◌++◌}
use Prim.Native.Nat.{ℕ, zero, suc, ◌≤◌, ◌<◌}
use Rattle.lists.specs.Lists.{none, among, Distinct, front, rest}
use Rattle.lists.specs.Laws.{by_test, never, not_head, not_tail, not_cons, not_left, is_head, is_tail}
use Rattle.lines.specs.Lines.{walk, Path, last_cell}

-- the last cell is the first one, or stands in the list
pub last_not : (i c : ℕ) (xs : List ℕ) → (c ≡ i → ⊥) → among i xs ≡ false → last_cell c xs ≡ i → ⊥
last_not i c [] h g = h
last_not i c (x ∷ xs) h g = last_not i x xs (not_head i x xs g) (not_tail i x xs g)

pub last_append : (c y : ℕ) (xs ys : List ℕ) → last_cell c (xs ++ (y ∷ ys)) ≡ last_cell y ys
last_append c y [] ys = refl
last_append c y (x ∷ xs) ys = last_append x y xs ys

-- ---- walks to any end
module _ (P : ℕ) where
  -- a walk stays what it is where the cells that it reads hold what they held
  pub path_same : (l m : List ℕ) (c : ℕ) (xs : List ℕ) (e : ℕ) → get_or m c 0 ≡ get_or l c 0 → ((i : ℕ) → i < P → among i xs ≡ true → get_or m i 0 ≡ get_or l i 0) → Path P l c xs e → Path P m c xs e
  path_same l m c [] e h f k = h ∙ k
  path_same l m c (x ∷ xs) e h f k =
      (h ∙ k.0, k.1, path_same l m x xs e (f x k.1 (is_head x x xs refl)) (λ i b g. f i b (is_tail i x xs g)) k.2)

  -- two cells that hold the same start the same walk
  pub path_cell : (l : List ℕ) (c d : ℕ) (xs : List ℕ) (e : ℕ) → get_or l c 0 ≡ get_or l d 0 → Path P l d xs e → Path P l c xs e
  path_cell l c d [] e h k = h ∙ k
  path_cell l c d (x ∷ xs) e h k = (h ∙ k.0, k.1, k.2)

  -- a walk is of places
  pub path_high : (l : List ℕ) (c : ℕ) (xs : List ℕ) (e i : ℕ) → Path P l c xs e → P ≤ i → among i xs ≡ false
  path_high l c [] e i k h = refl
  path_high l c (x ∷ xs) e i k h = let b = k.1 in not_cons i x xs (omega arith) (path_high l x xs e i k.2 h)

  -- what the cell holds: who is first
  pub path_front : (l : List ℕ) (c : ℕ) (xs : List ℕ) → Path P l c xs none → get_or l c 0 ≡ front xs
  path_front l c [] k = k
  path_front l c (x ∷ xs) k = k.0

  pub path_rest : (l : List ℕ) (c : ℕ) (xs : List ℕ) → Path P l c xs none → (get_or l c 0 ≡ none → ⊥) → xs ≡ get_or l c 0 ∷ rest xs
  path_rest l c [] k h = absurd (h k)
  path_rest l c (x ∷ xs) k h = ap (λ (a : ℕ). a ∷ xs) (sym k.0)

  pub path_place : (l : List ℕ) (c : ℕ) (xs : List ℕ) (p : ℕ) (ys : List ℕ) → Path P l c (xs ++ (p ∷ ys)) none → p < P
  path_place l c [] p ys k = k.1
  path_place l c (x ∷ xs) p ys k = path_place l x xs p ys k.2

  pub path_aft : (l : List ℕ) (c : ℕ) (xs : List ℕ) (p : ℕ) (ys : List ℕ) → Path P l c (xs ++ (p ∷ ys)) none → Path P l p ys none
  path_aft l c [] p ys k = k.2
  path_aft l c (x ∷ xs) p ys k = path_aft l x xs p ys k.2

  -- the part of a walk before a place
  pub path_fore : (l : List ℕ) (c : ℕ) (xs ys : List ℕ) (e : ℕ) → Path P l c (xs ++ ys) e → Path P l c xs (get_or l (last_cell c xs) 0)
  path_fore l c [] ys e k = refl
  path_fore l c (x ∷ xs) ys e k = (k.0, k.1, path_fore l x xs ys e k.2)

  -- a step more
  pub path_more : (l : List ℕ) (c : ℕ) (xs : List ℕ) (e : ℕ) → Path P l c xs e → e < P → Path P l c (xs ++ (e ∷ [])) (get_or l e 0)
  path_more l c [] e k b = (k, b, refl)
  path_more l c (x ∷ xs) e k b = (k.0, k.1, path_more l x xs e k.2 b)

  -- ---- its last cell
  pub path_in : (n : ℕ) (l : List ℕ) (c : ℕ) (xs : List ℕ) (e : ℕ) → Path P l c xs e → c < n → P ≤ n → last_cell c xs < n
  path_in n l c [] e k h g = h
  path_in n l c (x ∷ xs) e k h g = let a = k.1 in path_in n l x xs e k.2 (omega arith) g

  -- the last place, from the last cell
  pub last_high : (l : List ℕ) (c : ℕ) (xs : List ℕ) (e : ℕ) → Path P l c xs e → P ≤ last_cell c xs → none ≡ last_cell none xs
  last_high l c [] e k h = refl
  last_high l c (x ∷ xs) e k h = let b = path_in P l x xs e k.2 k.1 (omega arith) in absurd (omega arith)

  pub last_place : (c : ℕ) (xs : List ℕ) → P ≤ c → last_cell c xs < P → last_cell c xs ≡ last_cell none xs
  last_place c [] h g = absurd (omega arith)
  last_place c (x ∷ xs) h g = refl

  pub last_some : (c : ℕ) (xs : List ℕ) → (last_cell none xs ≡ none → ⊥) → last_cell none xs ≡ last_cell c xs
  last_some c [] h = absurd (h refl)
  last_some c (x ∷ xs) h = refl

  -- the same walk in two arrays: the same cells
  pub path_start : (l m : List ℕ) (c : ℕ) (xs : List ℕ) (e : ℕ) → Path P l c xs e → Path P m c xs e → get_or l c 0 ≡ get_or m c 0
  path_start l m c [] e k h = k ∙ sym h
  path_start l m c (x ∷ xs) e k h = k.0 ∙ sym h.0

  pub path_agree : (l m : List ℕ) (c : ℕ) (xs : List ℕ) (e i : ℕ) → Path P l c xs e → Path P m c xs e → among i xs ≡ true → get_or l i 0 ≡ get_or m i 0
  path_agree l m c [] e i k h g = never g refl
  path_agree l m c (x ∷ xs) e i k h g =
      by_test (eqb x i)
      (λ t. let q : x ≡ i = eqb-true x i t in rw q at (path_start l m x xs e k.2 h.2))
      (λ t. path_agree l m x xs e i k.2 h.2 (rw t at g))

  -- p, which no walk leads to, is hung behind the last cell
  pub path_join : (l : List ℕ) (c : ℕ) (xs : List ℕ) (p : ℕ) → Path P l c xs none → Distinct xs → among c xs ≡ false → last_cell c xs < length l
      → p < P → (c ≡ p → ⊥) → among p xs ≡ false → get_or l p 0 ≡ none → Path P (set l (last_cell c xs) p) c (xs ++ (p ∷ [])) none
  path_join l c [] p k d n b s a h e =
      (get_or-set_same l c p 0 b, s, get_or-set_other l c p p 0 (λ t. a (sym t)) ∙ e)
  path_join l c (x ∷ xs) p k d n b s a h e = (
    get_or-set_other l (last_cell x xs) c p 0 (λ t. last_not c x xs (not_head c x xs n) (not_tail c x xs n) (sym t)) ∙ k.0,
    k.1,
    path_join l x xs p k.2 d.1 d.0 b s (not_head p x xs h) (not_tail p x xs h) e,
  )

  -- p is cut out: the cell before it takes what p's cell holds
  pub path_cut : (l : List ℕ) (c : ℕ) (xs : List ℕ) (p : ℕ) (ys : List ℕ) → Path P l c (xs ++ (p ∷ ys)) none → Distinct (xs ++ (p ∷ ys)) → among c (xs ++ (p ∷ ys)) ≡ false
      → last_cell c xs < length l → Path P (set l (last_cell c xs) (get_or l p 0)) c (xs ++ ys) none
  path_cut l c [] p ys k d n b =
      let m = set l c (get_or l p 0) in
      let o : get_or m p 0 ≡ get_or l p 0 = get_or-set_other l c p (get_or l p 0) 0 (not_head c p ys n) in
      path_cell m c p ys none (get_or-set_same l c (get_or l p 0) 0 b ∙ sym o)
      (path_same l m p ys none o
      (λ i s g. get_or-set_other l c i (get_or l p 0) 0 (λ t. never g (rw (← t) at (not_tail c p ys n))))
      k.2)
  path_cut l c (x ∷ xs) p ys k d n b = (
    get_or-set_other l (last_cell x xs) c (get_or l p 0) 0
        (λ t. last_not c x xs (not_head c x (xs ++ (p ∷ ys)) n) (not_left c xs (p ∷ ys) (not_tail c x (xs ++ (p ∷ ys)) n)) (sym t))
        ∙ k.0,
    k.1,
    path_cut l x xs p ys k.2 d.1 d.0 b,
  )

-- ---- walks to the end of a line: none is no place
module _ (P : ℕ) (small : P ≤ none) where
  -- there is one walk from a cell to the end
  pub path_one : (l : List ℕ) (c : ℕ) (xs ys : List ℕ) → Path P l c xs none → Path P l c ys none → xs ≡ ys
  path_one l c [] [] k h = refl
  path_one l c [] (y ∷ ys) k h = let a = h.0 in let b = h.1 in absurd (omega arith)
  path_one l c (x ∷ xs) [] k h = let a = k.0 in let b = k.1 in absurd (omega arith)
  path_one l c (x ∷ xs) (y ∷ ys) k h =
      let e : y ≡ x = sym h.0 ∙ k.0 in
      let g : Path P l x ys none = rw e at h.2 in
      ap₂ (λ (a : ℕ) (b : List ℕ). a ∷ b) (sym e) (path_one l x xs ys k.2 g)

  -- who is on it is followed by less than the whole
  path_after : (l : List ℕ) (c : ℕ) (xs : List ℕ) (e p : ℕ) → Path P l c xs e → among p xs ≡ true → (ys : List ℕ) × Path P l p ys e × (length ys < length xs)
  path_after l c [] e p k h = never h refl
  path_after l c (x ∷ xs) e p k h =
      by_test (eqb x p)
      (λ g. let q = eqb-true x p g in (xs, rw q at k.2, omega arith))
      (λ g. let r = path_after l x xs e p k.2 (rw g at h) in (r.0, r.1, omega (arith, r.2)))

  -- so no place stands in it twice
  pub path_distinct : (l : List ℕ) (c : ℕ) (xs : List ℕ) → Path P l c xs none → Distinct xs
  path_distinct l c [] k = tt
  path_distinct l c (x ∷ xs) k = (
    by_test (among x xs)
        (λ h.
        let r = path_after l x xs none x k.2 h in
        let e : length xs ≡ length r.0 = ap length (path_one l x xs r.0 k.2 r.1) in
        absurd (omega (arith, r.2)))
        (λ h. h),
    path_distinct l x xs k.2,
  )

  -- with enough fuel the walk is what is computed
  pub path_walk : (n : ℕ) (l : List ℕ) (c : ℕ) (xs : List ℕ) → Path P l c xs none → length xs ≤ n → walk n l c ≡ xs
  unfolding walk
  path_walk zero l c [] k h = refl
  path_walk zero l c (x ∷ xs) k h = absurd (omega arith)
  path_walk (suc n) l c [] k h = rw (eq-eqb (get_or l c 0) none k)
  path_walk (suc n) l c (x ∷ xs) k h =
      let a = k.0 in let b = k.1 in
      rw (ne_eqb (get_or l c 0) none (omega arith), a) (ap (λ (t : List ℕ). x ∷ t) (path_walk n l x xs k.2 (omega arith)))

  -- where it is empty
  pub path_none : (l : List ℕ) (c : ℕ) (xs : List ℕ) → Path P l c xs none → get_or l c 0 ≡ none → xs ≡ []
  path_none l c [] k h = refl
  path_none l c (x ∷ xs) k h = let a = k.0 in let b = k.1 in absurd (omega arith)

  -- its last cell is the one it starts at where it is empty
  pub last_own : (l : List ℕ) (c : ℕ) (xs : List ℕ) → Path P l c xs none → last_cell none xs ≡ none → c ≡ last_cell c xs
  last_own l c [] k h = refl
  last_own l c (x ∷ xs) k h = let b = path_in P P l x xs none k.2 k.1 (omega arith) in absurd (omega arith)

  -- a walk that has come to a cell goes on as the one walk to the end does
  pub path_on : (l : List ℕ) (c : ℕ) (xs zs : List ℕ) (e : ℕ) → Path P l c xs e → Path P l c zs none → (e ≡ none → ⊥) → (ys : List ℕ) × (zs ≡ xs ++ (e ∷ ys))
  path_on l c [] [] e k h n = absurd (n (sym k ∙ h))
  path_on l c [] (z ∷ zs) e k h n = (zs, ap (λ (a : ℕ). a ∷ zs) (sym h.0 ∙ k))
  path_on l c (x ∷ xs) [] e k h n = let a = k.0 in let b = k.1 in absurd (omega arith)
  path_on l c (x ∷ xs) (z ∷ zs) e k h n =
      let u : z ≡ x = sym h.0 ∙ k.0 in
      let g : Path P l x zs none = rw u at h.2 in
      let r = path_on l x xs zs e k.2 g n in
      (r.0, ap₂ (λ (a : ℕ) (b : List ℕ). a ∷ b) u r.1)

-- a walk of at most n is at most n long
pub walk_short : (n : ℕ) (l : List ℕ) (c : ℕ) → length (walk n l c) ≤ n
unfolding walk
walk_short zero l c = omega arith
walk_short (suc n) l c =
    let ih = walk_short n l (get_or l c 0) in
    by_test (eqb (get_or l c 0) none) (λ e. rw e (omega arith)) (λ e. rw e (omega arith))
