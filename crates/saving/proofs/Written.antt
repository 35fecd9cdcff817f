-- The image, written: what the writer is held to, and how its parts make it.
use Rattle.std.specs.Prelude.{ℕ, ◌+◌, ◌*◌, ◌≤◌, ◌<◌, ◌≡◌, Bool, false, length}
use Rattle.std.proofs.Math.Path.{sym, ap}
use Rattle.std.proofs.Common.{◌∙◌, arith, length-append}
use mathlib.Core.List.{List, [], ◌∷◌, ◌++◌}
use Rattle.std.proofs.Math.ListN.{drop}
use Rattle.lists.specs.Sizes.{queue_count}
use Rattle.lists.specs.Lists.{none, tally}
use Rattle.lists.specs.Bytes.{two_bytes}
use Rattle.lists.specs.Laid.{laid, Wrote, laid_length, wrote_then, wrote_front, Going, going_start, going_by, going_room, going_more, going_last}
use Rattle.lines.specs.Lines.{line_of}
use Rattle.filled.specs.Filled.{width, word_of}
use Rattle.rules.specs.Model.{places, line, live}
use Rattle.table.specs.Cells.{stands_at, shown_in, StandsByIn}
use Rattle.table.specs.Rows.{line_at}
use Rattle.table.specs.Choose.{live_is}
use Rattle.table.specs.declared.Arrays.{Arrays}
use Rattle.table.specs.declared.Desk.{Desk}
use Rattle.saving.specs.Format.{total_at, head_length, entry_length, queue_lengths, queues, head, encode_as}
use Rattle.saving.specs.Queues.{sizes_same, joined_same, lengths_length}
use Rattle.saving.specs.Longest.{longest_image}
use Rattle.saving.proofs.Longest.{live_length, tail_length, encode_length, longest_as}
use Rattle.saving.specs.Parts.{held, bodies_in, contents_in, tail_in, tail_same}
use Rattle.saving.specs.Puts.{HasRoom, room_first}
use Rattle.saving.specs.declared.format.Row.{Row}
use Rattle.saving.specs.declared.writer.Writer.{Writer}
use Rattle.saving.specs.Written.{Written, PutsContents, PutsTail, lengths_in, waiting_in, head_of}

-- they are those of the model
module _ (row : Row) (h : row.queues ≤ queue_count) (a : Arrays) where
  same : (q : ℕ) → q < queue_count → line (held a) q ≡ line_of places a.lines q
  same q k = line_at none none a.table.blocks a.table.words a.lines q (omega arith)

  lengths_are : queue_lengths row (held a) ≡ lengths_in row a.lines
  lengths_are = sizes_same (line (held a)) (line_of places a.lines) queue_count same row h

  queues_are : queues row (held a) ≡ waiting_in row a.lines
  queues_are = joined_same (line (held a)) (line_of places a.lines) queue_count same row h

-- ---- behind the head: contents, queues, bodies, one after the other
module _ {row : Row} {a : Arrays} {v : Writer} {o : ℕ} (k : PutsTail row a v o) where
  pub tail_is : tail_in row a ≡ contents_in row a o ++ (waiting_in row a.lines ++ bodies_in row a)
  tail_is = rw (← k.first, queues_are row k.few a)

  pub tail_room : HasRoom v (contents_in row a o ++ (waiting_in row a.lines ++ bodies_in row a))
  tail_room = let i = ap length tail_is in let h = k.room in omega arith

  pub tail_contents : PutsContents row a v o
  tail_contents = record {
    lines = k.lines;
    room = room_first v (contents_in row a o) (waiting_in row a.lines ++ bodies_in row a) tail_room;
    low = let i = tail_length row (held a) in let c = k.first in let h = k.low in omega arith;
  }

  start : Going (laid v.out.now v.at (tail_in row a)) (v.at + length (tail_in row a)) v.out.now v.at (contents_in row a o ++ (waiting_in row a.lines ++ bodies_in row a))
  start = going_by (going_start v.out.now v.at (tail_in row a) k.room) tail_is

  module _ {t : List ℕ} {r : ℕ} (p₁ : Wrote v.out.now v.at (contents_in row a o) t r) where
    pub queues_room : r + length (waiting_in row a.lines) ≤ length t
    queues_room = going_room (waiting_in row a.lines) (bodies_in row a) (going_more start p₁)

    module _ {u : List ℕ} {n : ℕ} (p₂ : Wrote t r (waiting_in row a.lines) u n) where
      left : Going (laid v.out.now v.at (tail_in row a)) (v.at + length (tail_in row a)) u n (bodies_in row a)
      left = going_more (going_more start p₁) p₂

      pub bodies_room : n + length (bodies_in row a) ≤ length u
      bodies_room = let i = left.ends in let c = left.room in omega arith

      pub tail_whole : {z : List ℕ} {e : ℕ} → Wrote u n (bodies_in row a) z e → Wrote v.out.now v.at (tail_in row a) z e
      tail_whole p₃ = going_last left p₃

-- ---- the head: four bytes, the lengths, and the total
module _ (row : Row) (l : List ℕ) (y x n k : ℕ) (s : List ℕ) (room : head_length row ≤ length s) {xs : List ℕ} (ex : xs ≡ row.edition ∷ y ∷ x ∷ n ∷ []) where
  pub first_room : 0 + length xs ≤ length s
  first_room = let a = ap length ex in omega arith

  module _ {t : List ℕ} {r : ℕ} (p : Wrote s 0 xs t r) where
    pub lengths_room : r + length (lengths_in row l) ≤ length t
    lengths_room =
        let a = ap length ex in
        let c = lengths_length (line_of places l) row in
        let d = p.next in
        let e = ap length p.bytes ∙ laid_length s 0 xs first_room in
        omega arith

    module _ {u : List ℕ} {v : ℕ} (q : Wrote t r (lengths_in row l) u v) {ys : List ℕ} (ey : ys ≡ two_bytes k) where
      both : Wrote s 0 (xs ++ lengths_in row l) u v
      both = wrote_then p q (let a = ap length ex in let c = lengths_length (line_of places l) row in omega arith)

      both_length : length (xs ++ lengths_in row l) ≡ total_at row
      both_length =
          let a = ap length ex in
          let c = lengths_length (line_of places l) row in
          let d = length-append xs (lengths_in row l) in
          omega arith

      pub total_room : v + length ys ≤ length u
      total_room =
          let a = ap length ey in
          let c = both_length in
          let d = both.next in
          let e = ap length both.bytes ∙ laid_length s 0 (xs ++ lengths_in row l) (omega arith) in
          omega arith

      pub head_whole : {z : List ℕ} {e : ℕ} → Wrote u v ys z e → Wrote s 0 (head_of row y x n (lengths_in row l) k) z e
      head_whole w =
          let a = ap length ey in
          let c = both_length in
          rw (ex, ey) at (wrote_then both w (omega arith))

-- ---- the whole
module _ (row : Row) (few : row.queues ≤ queue_count) {d : Desk} {a : Arrays} (k : StandsByIn false d a) where
  whole_length : length (encode_as row (shown_in d a)) ≡ head_length row + length (tail_in row a)
  whole_length = encode_length row (shown_in d a) ∙ ap (λ (t : List ℕ). head_length row + length t) (tail_same d a row)

  whole_low : head_length row + length (tail_in row a) ≤ longest_image
  whole_low = let i = whole_length in let c = longest_as row (shown_in d a) few k.consistent in omega arith

  module _ {n : ℕ} (en : (f : ℕ → Bool) → d.filled ≡ word_of width f → n ≡ tally width f) where
    count_is : n ≡ live (shown_in d a)
    count_is = en (stands_at a.table.blocks) k.filled ∙ sym (live_is d a.table.blocks a.table.words a.lines)

    pub write_tail : {o : ℕ} {v : Writer} → o ≡ head_length row + entry_length * n + length (waiting_in row a.lines) → v.at ≡ head_length row → longest_image ≤ length v.out.now → PutsTail row a v o
    write_tail eo ev h = record {
      lines = k.whole.lines;
      few = few;
      first =
          let i = count_is ∙ live_length (shown_in d a) in
          let c = ap length (queues_are row few a) in
          omega arith;
      room = let i = whole_low in omega arith;
      low = whole_low;
    }

    module _ {s t : List ℕ} {e : ℕ} (p : Wrote s (head_length row) (tail_in row a) t e) (h : longest_image ≤ length s) where
      pub write_low : e ≤ longest_image
      write_low = let i = p.next in let c = whole_low in omega arith

      head_is : head_of row d.last.0 d.running.0 n (lengths_in row a.lines) e ≡ head row (shown_in d a)
      head_is = rw (count_is, ← lengths_are row few a, p.next, tail_same d a row)

      head_length_lem : length (head_of row d.last.0 d.running.0 n (lengths_in row a.lines) e) ≡ head_length row
      head_length_lem =
          let i = length-append (lengths_in row a.lines) (two_bytes e) in
          let c = lengths_length (line_of places a.lines) row in
          omega arith

      pub write_head : 0 + length (head_of row d.last.0 d.running.0 n (lengths_in row a.lines) e) ≤ length t
      write_head =
          let i = whole_low in
          let c = ap length p.bytes ∙ laid_length s (head_length row) (tail_in row a) (omega arith) in
          let f = head_length_lem in
          omega arith

      pub write_whole : {u : List ℕ} {v : ℕ} → Wrote t 0 (head_of row d.last.0 d.running.0 n (lengths_in row a.lines) e) u v → {z : List ℕ} → z ≡ u → Written row (shown_in d a) s z e
      unfolding encode_as
      write_whole q f = record {
        size = p.next ∙ sym whole_length;
        bytes =
            let i = whole_low in
            f
            ∙ wrote_front p q head_length_lem (omega arith)
            ∙ ap (λ (x : List ℕ). (x ++ tail_in row a) ++ drop e s) head_is
            ∙ ap (λ (x : List ℕ). (head row (shown_in d a) ++ x) ++ drop e s) (sym (tail_same d a row));
      }
