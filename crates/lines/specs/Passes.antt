-- A walk along a line, from its first place to the end, as a caller's loop makes it with `first` and `after`: what is left from each place on. Assumes nothing.
use Rattle.std.specs.Prelude.{◌≡◌, refl, List, [], ◌∷◌, true, Option, Some, None, ℕ, ◌+◌, ◌≤◌, ◌<◌, ltb, length}
use Rattle.std.proofs.Common.{sym, ap, ◌∙◌, arith, ltb-true, ltb-false}
use Rattle.lists.specs.Lists.{none, known, KnownBy, among, front, rest}
use Rattle.lists.specs.Known.{known_some}
use Rattle.lists.specs.Laws.{by_test, never, front_some}
use Rattle.lines.specs.Lines.{line_of, Tidy, next_in, Next}
use Rattle.lines.specs.Arrays.{once, is_short}
use Rattle.lines.specs.Along.{on_from, from_front, from_next, next_front, on_among, on_none, no_place}

-- the places of line q from p on
abbrev pub left : ℕ → List ℕ → ℕ → ℕ → List ℕ
left P l q p = on_from p (line_of P l q)

-- the same, where the walk knows who is next, if anybody is
abbrev pub left_from : ℕ → List ℕ → ℕ → Option ℕ → List ℕ
left_from P l q None = []
left_from P l q (Some p) = left P l q p

pub left_from_short : (P : ℕ) (l : List ℕ) (q : ℕ) {o : Option ℕ} (x : ℕ) → o ≡ known x → length (left_from P l q o) ≤ length (left P l q x)
left_from_short P l q {o = None} x e = omega arith
left_from_short P l q {o = Some p} x e = let z = ap (λ (y : ℕ). length (left P l q y)) (known_some e refl).0 in omega arith

-- the walk has come to p
abbrev pub Reaches : ℕ → List ℕ → ℕ → ℕ → Type 0
Reaches P l q p = p ≡ front (left P l q p)

-- from p the walk goes to r
pub record Passes (P : ℕ) (l : List ℕ) (q p r : ℕ) : Type 0 where
  pub left_is : left P l q p ≡ p ∷ left P l q r
  pub reaches : Reaches P l q r

pub left_all : (P : ℕ) (l : List ℕ) (q p : ℕ) → p ≡ front (line_of P l q) → left P l q p ≡ line_of P l q
left_all P l q p e = ap (λ (x : ℕ). on_from x (line_of P l q)) e ∙ from_front (line_of P l q)

pub walk_start : (P : ℕ) (l : List ℕ) (q p : ℕ) → p ≡ front (line_of P l q) → Reaches P l q p
walk_start P l q p e = rw (left_all P l q p e) e

-- somebody is left, and p is the first
pub walk_here : (P : ℕ) (l : List ℕ) (q p : ℕ) → Reaches P l q p → (p ≡ none → ⊥) → left P l q p ≡ p ∷ rest (left P l q p)
walk_here P l q p at f = front_some (left P l q p) (λ e. f (at ∙ e)) ∙ rw (← at)

pub walk_some : (P : ℕ) (l : List ℕ) (q p : ℕ) → Reaches P l q p → (p ≡ none → ⊥) → 1 ≤ length (left P l q p)
walk_some P l q p at f = let z = ap length (walk_here P l q p at f) in omega arith

module _ {P N : ℕ} {l : List ℕ} {q : ℕ} (k : Tidy P N l) (small : P ≤ none) (h : q < N) where
  -- no line is longer than there are places
  pub line_short : length (line_of P l q) ≤ P
  line_short = is_short P N small l (line_of P l) k q h

  module _ {p : ℕ} where
    pub walk_end : p ≡ none → left P l q p ≡ []
    walk_end e = on_none p (line_of P l q) (no_place k small p q h (omega arith))

    module _ (at : Reaches P l q p) (f : p ≡ none → ⊥) where
      walk_in : among p (line_of P l q) ≡ true
      walk_in = on_among p (line_of P l q) at f

      pub walk_place : p < P
      walk_place = by_test (ltb p P) (λ t. ltb-true p P t) (λ t. never walk_in (no_place k small p q h (ltb-false p P t)))

      pub walk_on : {o : Option ℕ} → Next P N l p o → KnownBy (Passes P l q p) o
      walk_on t =
          let xs = line_of P l q in
          let r = next_in p xs in
          let on : left P l q r ≡ rest (left P l q p) = from_next p xs (once P N small l k q h) (no_place k small none q h small) walk_in in (
            r,
            t q h walk_in,
            record {
              left_is = walk_here P l q p at f ∙ rw on;
              reaches = next_front p xs ∙ ap front (sym on);
            },
          )

      pub walk_less : {o : Option ℕ} → Next P N l p o → length (left_from P l q o) < length (left P l q p)
      walk_less t =
          let s = walk_on t in
          let a = ap length s.2.left_is in
          let e = left_from_short P l q s.0 s.1 in
          omega arith

-- ---- the line is counted: n so far
pub record Counting (P : ℕ) (l : List ℕ) (q n p : ℕ) : Type 0 where
  pub reaches : Reaches P l q p
  pub counted : length (line_of P l q) ≡ n + length (left P l q p)

pub count_start : (P : ℕ) (l : List ℕ) (q p : ℕ) → p ≡ front (line_of P l q) → Counting P l q 0 p
count_start P l q p e = record { reaches = walk_start P l q p e; counted = let z = ap length (left_all P l q p e) in omega arith }

pub count_more : {P : ℕ} {l : List ℕ} {q n p r : ℕ} → Counting P l q n p → Passes P l q p r → Counting P l q (n + 1) r
count_more c s = record { reaches = s.reaches; counted = let z = ap length s.left_is in let g = c.counted in omega arith }

pub count_room : {P : ℕ} {l : List ℕ} {q n p : ℕ} → Counting P l q n p → (p ≡ none → ⊥) → n < length (line_of P l q)
count_room {P} {l} {q} {n} {p} c f = let a = walk_some P l q p c.reaches f in let g = c.counted in omega arith

pub count_end : {P : ℕ} {l : List ℕ} {q n p : ℕ} → Counting P l q n p → left P l q p ≡ [] → n ≡ length (line_of P l q)
count_end c e = let z = ap length e in let g = c.counted in omega arith
