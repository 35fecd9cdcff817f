-- The contents and the bodies, place by place: what the code that writes one place is held to.
use Rattle.std.specs.Prelude.{ℕ, ◌+◌, ◌≤◌, ◌<◌, ◌≡◌, refl, List, [], ◌∷◌, ◌++◌, true, false, not, length, set, eqb}
use Rattle.std.proofs.Common.{sym, ap, ◌∙◌, append-nil, arith, length-append, length-set, eq-eqb, ne_eqb}
use Rattle.lists.specs.Sizes.{queue_count}
use Rattle.lists.specs.Lists.{bit, none}
use Rattle.lists.specs.Bytes.{two_bytes}
use Rattle.lists.specs.Laid.{Wrote, laid_none, laid_length, laid_one, wrote_then}
use Rattle.lines.specs.Lines.{line_of}
use Rattle.rules.specs.Model.{Place, Number, places, Empty, Thread, inbox, line, lives_at}
use Rattle.table.specs.Cells.{thread_of}
use Rattle.table.specs.declared.Arrays.{Arrays}
use Rattle.table.specs.Rows.{thread_at, line_at}
use Rattle.saving.specs.Format.{body_length, thread_bytes, parent_bytes, body_of, bodies, contents}
use Rattle.saving.specs.Queues.{inbox_at}
use Rattle.saving.proofs.Longest.{parent_length}
use Rattle.saving.specs.Parts.{held, here, inbox_part, body_in}
use Rattle.saving.specs.Puts.{HasRoom, Puts, puts_none, room_first, room_then, puts_then}
use Rattle.saving.specs.declared.format.Row.{Row}
use Rattle.saving.specs.declared.writer.Writer.{Writer}
use Rattle.saving.specs.Entries.{EntryPut, PutsEntry}

-- ---- the parent n, if the row has it
module _ (row : Row) (s : List ℕ) (at : ℕ) (n : Number) where
  pub parent_none : row.parents ≡ false → Wrote s at (parent_bytes row n) s at
  parent_none e = rw e (record { next = omega arith; bytes = sym (laid_none s at) })

  module _ (e : row.parents ≡ true) (room : at + length (parent_bytes row n) ≤ length s) where
    pub parent_room : at < length s
    parent_room = let k : at + 1 ≤ length s = rw e at room in omega arith

    pub parent_one : Wrote s at (parent_bytes row n) (set s at n) (at + 1)
    parent_one = let h = parent_room in rw e (record { next = refl; bytes = laid_one s at n h })

-- ---- an inbox: its length, which is k, the parent n, and its places xs
module _ (row : Row) (s xs : List ℕ) (at : ℕ) (n : Number) {k : ℕ} (e : k ≡ length xs) (room : at + 1 + bit row.parents + length xs ≤ length s) where
  counted : Wrote s at (length xs ∷ []) (set s at k) (at + 1)
  counted = rw e (record { next = refl; bytes = laid_one s at (length xs) (omega arith) })

  pub parent_fits : at + 1 + length (parent_bytes row n) ≤ length (set s at k)
  parent_fits = let i = parent_length row n in let j = length-set s at k in omega arith

  module _ {t : List ℕ} {r : ℕ} (p : Wrote (set s at k) (at + 1) (parent_bytes row n) t r) where
    pub places_fit : r + length xs ≤ length t
    places_fit =
        let f = parent_fits in
        let g = length-set s at k in
        let h = parent_length row n in
        let i = p.next in
        let j = ap length p.bytes ∙ laid_length (set s at k) (at + 1) (parent_bytes row n) f in
        omega arith

    pub inbox_whole : {u : List ℕ} {v : ℕ} → Wrote t r xs u v → Wrote s at (length xs ∷ parent_bytes row n ++ xs) u v
    inbox_whole q =
        let g = length-set s at k in
        let h = parent_length row n in
        let i = length-append (parent_bytes row n) xs in
        wrote_then counted (wrote_then p q (omega arith)) (omega arith)

    pub inbox_same_length : {u : List ℕ} {v : ℕ} → Wrote t r xs u v → length u ≡ length s
    inbox_same_length q =
        let h = parent_length row n in
        let i = length-append (parent_bytes row n) xs in
        ap length (inbox_whole q).bytes ∙ laid_length s at (length xs ∷ parent_bytes row n ++ xs) (omega arith)

module _ (row : Row) (a : Arrays) (p : Place) (h : p < places) {t : Thread} (e : t ≡ thread_of a.table.blocks a.table.words p) where
  lives : lives_at (held a) p ≡ not (eqb t.standing Empty)
  lives = rw (thread_at none none a.table.blocks a.table.words a.lines p h, e)

  -- nobody lives there
  module _ (z : t.standing ≡ Empty) where
    none_here : here (held a) p ≡ []
    none_here = rw (lives, eq-eqb t.standing Empty z)

    pub body_none : (v : Writer) → Puts v (body_in row a p) v
    body_none v = rw none_here (puts_none v)

    pub entry_none : (v : Writer) (o : ℕ) → EntryPut row (held a) p v o v o
    entry_none v o = record { puts = rw none_here (puts_none v); body = rw none_here (omega arith) }

  -- somebody lives there
  module _ (z : t.standing ≡ Empty → ⊥) where
    one_here : here (held a) p ≡ p ∷ []
    one_here = rw (lives, ne_eqb t.standing Empty z)

    inbox_is : line (held a) (inbox p) ≡ line_of places a.lines (queue_count + p)
    inbox_is = let i = inbox_at p in rw (line_at none none a.table.blocks a.table.words a.lines (inbox p) (omega arith), i)

    pub body_one : body_in row a p ≡ thread_bytes t ++ inbox_part row t.parent a.lines (queue_count + p)
    body_one = ap (bodies row (held a)) one_here ∙ append-nil (body_of row (held a) p) ∙ rw (inbox_is, thread_at none none a.table.blocks a.table.words a.lines p h, e)

    pub entry_one : (o : ℕ) → contents row (held a) o (here (held a) p) ≡ p ∷ t.number ∷ two_bytes o
    entry_one o = ap (contents row (held a) o) one_here ∙ rw (thread_at none none a.table.blocks a.table.words a.lines p h, e)

    size : length (body_in row a p) ≡ body_length row + length (line_of places a.lines (queue_count + p))
    size = let n = parent_length row t.parent in ap length body_one ∙ simp length-append (omega arith)

    module _ (v : Writer) (room : HasRoom v (body_in row a p)) where
      parts : HasRoom v (thread_bytes t ++ inbox_part row t.parent a.lines (queue_count + p))
      parts = let i = ap length body_one in omega arith

      pub thread_room : HasRoom v (thread_bytes t)
      thread_room = room_first v (thread_bytes t) (inbox_part row t.parent a.lines (queue_count + p)) parts

      module _ {u : Writer} (q : Puts v (thread_bytes t) u) where
        pub inbox_room : HasRoom u (inbox_part row t.parent a.lines (queue_count + p))
        inbox_room = room_then q (inbox_part row t.parent a.lines (queue_count + p)) parts

        pub body_whole : {w : Writer} → Puts u (inbox_part row t.parent a.lines (queue_count + p)) w → Puts v (body_in row a p) w
        body_whole i = rw body_one (puts_then q (inbox_part row t.parent a.lines (queue_count + p)) parts i)

    module _ {v : Writer} {o : ℕ} (k : PutsEntry row a p v o) {x : List ℕ} (i : x ≡ p ∷ t.number ∷ two_bytes o) where
      pub entry_room : HasRoom v x
      entry_room = let j = ap length i in let f = ap length (entry_one o) in let g = k.room in omega arith

      pub entry_whole : {w : Writer} {n b : ℕ} → Puts v x w → n ≡ length (line_of places a.lines (queue_count + p)) → b ≡ n → {c : ℕ} → c ≡ body_length row → EntryPut row (held a) p v o w (o + c + b)
      entry_whole q f g d = record { puts = rw (entry_one o, ← i) q; body = let j = size in omega arith }
