-- What a caller goes on with after join, pop and leave. Assumes nothing.
use Rattle.std.specs.Prelude.{◌≡◌, refl, List, [], ◌∷◌, false, Option, Some, None, ℕ, ◌+◌, ◌≤◌, ◌<◌, eqb}
use Rattle.std.proofs.Common.{sym, ap, ◌∙◌, eqb-true}
use Rattle.std.proofs.lemmas.Bool.{eqb-false}
use Rattle.lists.specs.Lists.{none, known, among, front, rest}
use Rattle.lists.specs.Known.{known_none, known_some}
use Rattle.lists.specs.Laws.{by_test, front_some, front_among, front_none, front_once}
use Rattle.lines.specs.Lines.{line_of, Loose, Path, Tidy, Turned, Popped}
use Rattle.lines.specs.Arrays.{once, unique}
use Rattle.lines.specs.Along.{no_place}

-- a turn determines the array
pub turned_one : {P N : ℕ} {l m n : List ℕ} {q : ℕ} {xs : List ℕ} → Turned P N l m q xs → Turned P N l n q xs → P ≤ none → m ≡ n
turned_one {P} {N} {m = m} {n = n} {q = q} t u small =
    unique P N small m n t.tidy u.tidy (λ r h. by_test (eqb r q)
    (λ e. let z : r ≡ q = eqb-true r q e in rw z (t.here ∙ sym u.here))
    (λ e. let z = eqb-false r q e in t.others r h z ∙ sym (u.others r h z)))

-- a turn that leaves the line as it was leaves the array as it was: `leave` of who is not there
pub turned_same : {P N : ℕ} {l m : List ℕ} {q : ℕ} {xs : List ℕ} → Tidy P N l → Turned P N l m q xs → xs ≡ line_of P l q → P ≤ none → m ≡ l
turned_same k t e small = turned_one t (record { tidy = k; here = sym e; others = λ r h n. refl }) small

-- who stands in no line, and not in the new one, stands in none
pub loose_kept : {P N : ℕ} {l m : List ℕ} {q : ℕ} {xs : List ℕ} → Turned P N l m q xs → (p : ℕ) → among p xs ≡ false → ((r : ℕ) → r < N → (r ≡ q → ⊥) → among p (line_of P l r) ≡ false) → Loose N (line_of P m) p
loose_kept {q = q} t p h f r b =
    by_test (eqb r q)
    (λ e. let z : r ≡ q = eqb-true r q e in rw (z, t.here) h)
    (λ e. let z = eqb-false r q e in rw (t.others r b z) (f r b z))

-- the first, when it has left, stands in no line
pub loose_front : {P N : ℕ} {l m : List ℕ} {q : ℕ} → Tidy P N l → Turned P N l m q (rest (line_of P l q)) → q < N → P ≤ none → (front (line_of P l q) ≡ none → ⊥) → Loose N (line_of P m) (front (line_of P l q))
loose_front {P} {N} {l} {q = q} k t b small n =
    let xs = line_of P l q in
    loose_kept t (front xs) (front_once xs (once P N small l k q b) n) (λ r g d. k.apart q r (front xs) b g (λ e. d (sym e)) (front_among xs n))

-- the first of a line that is not empty is a place
pub front_place : {P N : ℕ} {l : List ℕ} {q : ℕ} → Tidy P N l → q < N → P ≤ none → (front (line_of P l q) ≡ none → ⊥) → front (line_of P l q) < P
front_place {P} {N} {l} {q} k b small n = go (line_of P l q) (k.linked q b) n
  where
    go : (xs : List ℕ) → Path P l (P + q) xs none → (front xs ≡ none → ⊥) → front xs < P
    go [] d e = absurd (e refl)
    go (x ∷ xs) d e = d.1

-- ---- after a pop
-- what was popped, as a number
module _ {P N : ℕ} {l m : List ℕ} {q : ℕ} {o : Option ℕ} (e : o ≡ known (front (line_of P l q))) (t : Turned P N l m q (rest (line_of P l q))) where
  pub popped_none : o ≡ None → Popped P N l m q none
  popped_none f = record { who = sym (known_none e f); turned = t }

  pub popped_some : {p : ℕ} → o ≡ Some p → Popped P N l m q p × (p ≡ none → ⊥)
  popped_some f = let z = known_some e f in (record { who = sym z.0; turned = t }, λ y. z.1 (z.0 ∙ y))

-- nobody stood there: the array is what it was
pub record Nobody (P : ℕ) (l m : List ℕ) (q : ℕ) : Type 0 where
  pub empty : line_of P l q ≡ []
  pub same : m ≡ l

-- r stood in front, and now stands in no line
pub record Somebody (P N : ℕ) (l m : List ℕ) (q r : ℕ) : Type 0 where
  pub line : line_of P l q ≡ r ∷ rest (line_of P l q)
  pub place : r < P
  pub loose : Loose N (line_of P m) r

module _ {P N : ℕ} {l m : List ℕ} {q r : ℕ} (k : Tidy P N l) (t : Popped P N l m q r) (b : q < N) (small : P ≤ none) where
  pub pop_none : r ≡ none → Nobody P l m q
  pop_none e =
      let z : line_of P l q ≡ [] = front_none (line_of P l q) (no_place k small none q b small) (sym t.who ∙ e) in
      record { empty = z; same = turned_same k t.turned (ap rest z ∙ sym z) small }

  pub pop_some : (r ≡ none → ⊥) → Somebody P N l m q r
  pop_some n =
      let g : front (line_of P l q) ≡ none → ⊥ = λ e. n (t.who ∙ e) in
      record {
        line = rw t.who (front_some (line_of P l q) g);
        place = rw t.who (front_place k b small g);
        loose = rw t.who (loose_front k t.turned b small g);
      }
