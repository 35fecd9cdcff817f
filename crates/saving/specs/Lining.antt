-- A line is walked, place by place, and written.
use Rattle.std.specs.Prelude.{◌≡◌, refl, List, [], ◌∷◌, Option, Some, ℕ, length}
use Rattle.std.proofs.Common.{sym, ◌∙◌, arith}
use Rattle.lists.specs.Lists.{none, known, KnownBy, front}
use Rattle.lists.specs.Known.{known_some, known_of}
use Rattle.lists.specs.Sizes.{places}
use Rattle.lists.specs.Laid.{laid_length}
use Rattle.lines.specs.Lines.{line_of}
use Rattle.lines.specs.Passes.{left, Reaches, Passes, left_all, walk_start, walk_some}
use Rattle.saving.specs.Puts.{HasRoom, Puts, Putting, putting_start, putting_by, putting_more, putting_end}
use Rattle.saving.specs.declared.writer.Writer.{Writer}

-- a walk that goes on is at a place, of which all holds that was known of it
pub walk_at : {P : ℕ → Type 0} {o : Option ℕ} {p : ℕ} → KnownBy P o → o ≡ Some p → P p × (p ≡ none → ⊥)
walk_at {P} v f = let z = known_some v.1 f in (known_of v.1 P f v.2, λ y. z.1 (z.0 ∙ y))

-- line q was to be written from v on; the walk has come to p, and the writer is w
pub record Lining (v : Writer) (l : List ℕ) (q : ℕ) (w : Writer) (p : ℕ) : Type 0 where
  pub reaches : Reaches places l q p
  pub putting : Putting v (line_of places l q) w (left places l q p)

pub lining_start : (v : Writer) (l : List ℕ) (q : ℕ) {o : Option ℕ} → o ≡ known (front (line_of places l q)) → HasRoom v (line_of places l q) → KnownBy (Lining v l q v) o
lining_start v l q e h =
    let p = front (line_of places l q) in
    (p, e, record { reaches = walk_start places l q p refl; putting = rw (left_all places l q p refl) (putting_start v (line_of places l q) h) })

module _ {v : Writer} {l : List ℕ} {q : ℕ} {w : Writer} {p : ℕ} (k : Lining v l q w p) where
  pub lining_room : (p ≡ none → ⊥) → HasRoom w (p ∷ [])
  lining_room f = let a = k.putting.going.ends in let b = k.putting.going.room in let z = walk_some places l q p k.reaches f in omega arith

  pub lining_more : {u : Writer} {o : Option ℕ} → Puts w (p ∷ []) u → KnownBy (Passes places l q p) o → KnownBy (Lining v l q u) o
  lining_more z (x, e, n) = (x, e, record { reaches = n.reaches; putting = putting_more {ys = p ∷ []} (putting_by k.putting n.left_is) z })

  pub lining_length : HasRoom v (line_of places l q) → length w.out.now ≡ length v.out.now
  lining_length h = sym k.putting.going.whole ∙ laid_length v.out.now v.at (line_of places l q) h

  pub lining_end : left places l q p ≡ [] → Puts v (line_of places l q) w
  lining_end e = putting_end (putting_by k.putting e)
