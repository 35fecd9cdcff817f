-- The writer's two loops over the places: first the contents, then the bodies. What is left to write is the same part, of the places that are left.
use Rattle.std.specs.Prelude.{ℕ, ◌+◌, ◌≤◌, ◌<◌, ◌≡◌, ◌++◌, length}
use Rattle.std.proofs.Common.{sym, ap, ◌∙◌, arith, length-append}
use Rattle.lists.specs.Laid.{laid_length}
use Rattle.lines.specs.Lines.{Tidy}
use Rattle.rules.specs.Model.{Place, places, line_count, Model}
use Rattle.table.specs.declared.Arrays.{Arrays}
use Rattle.saving.specs.Format.{live_places, bodies, contents}
use Rattle.saving.specs.Longest.{longest_image}
use Rattle.saving.specs.Parts.{held, here, lives_from, lives_start, lives_step, lives_end, bodies_append, contents_append}
use Rattle.saving.specs.Entries.{PutsEntry, EntryPut}
use Rattle.saving.specs.Puts.{HasRoom, Puts, Putting, putting_start, putting_by, putting_room, putting_more, putting_end}
use Rattle.saving.specs.declared.format.Row.{Row}
use Rattle.saving.specs.declared.writer.Writer.{Writer}

-- ---- the bodies, written from v on: the loop has come to p, and the writer is w
pub record Embodies (row : Row) (m : Model) (v w : Writer) (p : Place) : Type 0 where
  pub putting : Putting v (bodies row m (live_places m)) w (bodies row m (lives_from m p))

pub bodies_start : (row : Row) (m : Model) (v : Writer) → HasRoom v (bodies row m (live_places m)) → Embodies row m v v 0
bodies_start row m v h = record { putting = rw (lives_start m) (putting_start v (bodies row m (live_places m)) h) }

module _ {row : Row} {m : Model} {v w : Writer} {p : Place} (g : Embodies row m v w p) where
  module _ (h : p < places) where
    bodies_left : bodies row m (lives_from m p) ≡ bodies row m (here m p) ++ bodies row m (lives_from m (p + 1))
    bodies_left = ap (bodies row m) (lives_step m p h) ∙ bodies_append row m (here m p) (lives_from m (p + 1))

    split : Putting v (bodies row m (live_places m)) w (bodies row m (here m p) ++ bodies row m (lives_from m (p + 1)))
    split = putting_by g.putting bodies_left

    pub bodies_room : HasRoom w (bodies row m (here m p))
    bodies_room = putting_room (bodies row m (here m p)) (bodies row m (lives_from m (p + 1))) split

    pub bodies_more : {u : Writer} → Puts w (bodies row m (here m p)) u → Embodies row m v u (p + 1)
    bodies_more q = record { putting = putting_more split q }

  pub bodies_length_is : HasRoom v (bodies row m (live_places m)) → length w.out.now ≡ length v.out.now
  bodies_length_is h = sym g.putting.going.whole ∙ laid_length v.out.now v.at (bodies row m (live_places m)) h

  pub bodies_end : places ≤ p → Puts v (bodies row m (live_places m)) w
  bodies_end h = putting_end (putting_by g.putting (ap (bodies row m) (lives_end m p h)))

-- ---- the contents, written from v on, for a first body at o: now the next one starts at u
pub record Lists (row : Row) (m : Model) (v : Writer) (o : ℕ) (w : Writer) (u : ℕ) (p : Place) : Type 0 where
  pub putting : Putting v (contents row m o (live_places m)) w (contents row m u (lives_from m p))
  pub body : o + length (bodies row m (live_places m)) ≡ u + length (bodies row m (lives_from m p))

pub contents_start : (row : Row) (m : Model) (v : Writer) (o : ℕ) → HasRoom v (contents row m o (live_places m)) → Lists row m v o v o 0
contents_start row m v o h = record { putting = rw (lives_start m) (putting_start v (contents row m o (live_places m)) h); body = rw (lives_start m) }

module _ {row : Row} {m : Model} {v : Writer} {o : ℕ} {w : Writer} {u : ℕ} {p : Place} (g : Lists row m v o w u p) where
  module _ (h : p < places) where
    left_is : contents row m u (lives_from m p) ≡ contents row m u (here m p) ++ contents row m (u + length (bodies row m (here m p))) (lives_from m (p + 1))
    left_is = ap (contents row m u) (lives_step m p h) ∙ contents_append row m u (here m p) (lives_from m (p + 1))

    size : length (bodies row m (lives_from m p)) ≡ length (bodies row m (here m p)) + length (bodies row m (lives_from m (p + 1)))
    size = ap length (ap (bodies row m) (lives_step m p h) ∙ bodies_append row m (here m p) (lives_from m (p + 1))) ∙ length-append (bodies row m (here m p)) (bodies row m (lives_from m (p + 1)))

    next : Putting v (contents row m o (live_places m)) w (contents row m u (here m p) ++ contents row m (u + length (bodies row m (here m p))) (lives_from m (p + 1)))
    next = putting_by g.putting left_is

    pub contents_more : {w' : Writer} {u' : ℕ} → EntryPut row m p w u w' u' → Lists row m v o w' u' (p + 1)
    contents_more q = record {
      putting = rw q.body (putting_more next q.puts);
      body = let a = size in let b = q.body in let c = g.body in omega arith;
    }

    pub contents_room : HasRoom w (contents row m u (here m p))
    contents_room = putting_room (contents row m u (here m p)) (contents row m (u + length (bodies row m (here m p))) (lives_from m (p + 1))) next

    pub contents_low : o + length (bodies row m (live_places m)) ≤ longest_image → u + length (bodies row m (here m p)) ≤ longest_image
    contents_low i = let a = size in let c = g.body in omega arith

  pub contents_length_is : HasRoom v (contents row m o (live_places m)) → length w.out.now ≡ length v.out.now
  contents_length_is h = sym g.putting.going.whole ∙ laid_length v.out.now v.at (contents row m o (live_places m)) h

  pub contents_end : places ≤ p → Puts v (contents row m o (live_places m)) w
  contents_end h = putting_end (putting_by g.putting (ap (contents row m u) (lives_end m p h)))

-- what entering a place asks for
pub enters : {row : Row} {a : Arrays} {v : Writer} {o : ℕ} {w : Writer} {u : ℕ} {p : Place} → Lists row (held a) v o w u p → Tidy places line_count a.lines → p < places
    → o + length (bodies row (held a) (live_places (held a))) ≤ longest_image → PutsEntry row a p w u
enters g k h i = record { lines = k; place = h; room = contents_room g h; low = contents_low g h i }
