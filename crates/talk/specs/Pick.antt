-- The search along a line for the first from whom a receive takes.
use Rattle.std.specs.Prelude.{◌≡◌, refl, List, Option, Some, Bool, true, false, ℕ, ◌<◌, length, get_or}
use Rattle.std.proofs.Common.{sym, ap, ◌∙◌, arith}
use Rattle.lists.specs.Lists.{none, known, KnownBy, front, first_of}
use Rattle.lists.specs.Known.{known_some, known_of}
use Rattle.lines.specs.Lines.{line_of, Tidy, Next}
use Rattle.lines.specs.Passes.{left, left_from, Reaches, Passes, left_all, walk_start, walk_here, walk_end, walk_place, walk_on, walk_less}
use Rattle.rules.specs.Model.{places, line_count}
use Rattle.rules.specs.Rules.{wants}
use Rattle.table.specs.Cells.{cell}

-- does a receive from n take from the place p
abbrev pub taken : List ℕ → ℕ → ℕ → Bool
taken b n p = wants n (get_or b (cell 0 p) 0)

-- the first of line q from whom it takes, or none
abbrev pub picked : List ℕ → List ℕ → ℕ → ℕ → ℕ
picked b l q n = first_of (taken b n) (line_of places l q)

-- the search has come to p
pub record Picking (b l : List ℕ) (q n p : ℕ) : Type 0 where
  pub reaches : Reaches places l q p
  pub goes : picked b l q n ≡ first_of (taken b n) (left places l q p)

pub pick_start : (b l : List ℕ) (q n : ℕ) {o : Option ℕ} → o ≡ known (front (line_of places l q)) → KnownBy (Picking b l q n) o
pick_start b l q n e =
    let p = front (line_of places l q) in
    (p, e, record { reaches = walk_start places l q p refl; goes = rw (left_all places l q p refl) })

pub pick_at : {b l : List ℕ} {q n p : ℕ} {o : Option ℕ} → KnownBy (Picking b l q n) o → o ≡ Some p → Picking b l q n p × (p ≡ none → ⊥)
pick_at {b} {l} {q} {n} v f = let z = known_some v.1 f in (known_of v.1 (Picking b l q n) f v.2, λ y. z.1 (z.0 ∙ y))

module _ {b l : List ℕ} {q n p : ℕ} (g : Picking b l q n p) (k : Tidy places line_count l) (h : q < line_count) where
  pub pick_end : p ≡ none → none ≡ picked b l q n
  pick_end e = sym (g.goes ∙ rw (walk_end k (omega arith) h e))

  module _ (f : p ≡ none → ⊥) where
    pub pick_place : p < places
    pick_place = walk_place k (omega arith) h g.reaches f

    -- it takes from p, whose number is j
    pub pick_here : {j : ℕ} → j ≡ get_or b (cell 0 p) 0 → wants n j ≡ true → p ≡ picked b l q n
    pick_here {j} z e = let y : taken b n p ≡ true = rw z at e in sym (g.goes ∙ rw (walk_here places l q p g.reaches f, y))

    -- it does not, and o is who is next, if anybody is
    module _ {o : Option ℕ} (t : Next places line_count l p o) where
      onward : KnownBy (Passes places l q p) o
      onward = walk_on k (omega arith) h g.reaches f t

      pub pick_again : {j : ℕ} → j ≡ get_or b (cell 0 p) 0 → wants n j ≡ false → KnownBy (Picking b l q n) o
      pick_again {j} z e =
          let y : taken b n p ≡ false = rw z at e in
          let s = onward in
          (s.0, s.1, record { reaches = s.2.reaches; goes = g.goes ∙ ap (first_of (taken b n)) s.2.left_is ∙ rw y })

      pub pick_less : length (left_from places l q o) < length (left places l q p)
      pick_less = walk_less k (omega arith) h g.reaches f t
