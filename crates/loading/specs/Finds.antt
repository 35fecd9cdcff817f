-- What is found in the image of a consistent model: the head, the queues, and with each live place its entry and its body. Assumes nothing.
use Rattle.std.specs.Prelude.{◌≡◌, refl, Bool, true, cond, length, take, get_or}
use Rattle.std.proofs.Math.Path.{sym, ap}
use Rattle.std.proofs.Common.{ap₂, ◌∙◌, length-append, length-drop, drop-drop, get_or-drop, take_at}
use mathlib.Core.List.{List, ◌∷◌, ◌++◌, append_assoc}
use Prim.Native.Nat.{ℕ, zero, suc, ◌+◌, ◌*◌, ◌^◌, ◌≤◌, ◌<◌}
use native.Mathlib.Omega.{arith}
use Rattle.std.proofs.Math.ListN.{drop}
use Rattle.std.proofs.Math.Seq.{drop_at}
use Rattle.lists.specs.Laws.{by_test}
use Rattle.lists.specs.Bytes.{two_bytes, two_at, word_at, two_back, word_back}
use Rattle.rules.specs.Values.{nobody}
use Rattle.rules.specs.Model.{Model, inbox, thread, line, live}
use Rattle.order.specs.Sound.{old_of}
use Rattle.saving.specs.Format.{row_of, lengths_at, total_at, head_length, entry_length, inbox_length_at, parent_at, body_length, live_places, body_of, bodies, joined, queue_lengths, tail, head, encode_as}
use Rattle.saving.specs.Editions.{known_few, known_row}
use Rattle.saving.specs.Queues.{queues_from, queues_start, queues_step, lengths_length, length_found}
use Rattle.saving.proofs.Longest.{encode_length, longest_as}
use Rattle.saving.specs.declared.format.Row.{Row}
use Rattle.loading.specs.Loads.{row_at, ImageAsBy}
use Rattle.loading.specs.Positions.{offset, behind, lengths_at_lem, queues_at, entry_at, body_at}
use Rattle.loading.specs.Reading.{parent_in, thread_in, queue_at}

-- ---- a number in a list, from where it stands behind a

module _ (s : List ℕ) (a : ℕ) {xs : List ℕ} (e : drop a s ≡ xs) where
  byte_from : (k : ℕ) → get_or s (a + k) 0 ≡ get_or xs k 0
  byte_from k = sym (get_or-drop a s k 0) ∙ ap (λ (t : List ℕ). get_or t k 0) e

  byte_first : get_or s a 0 ≡ get_or xs 0 0
  byte_first = let z : a ≡ a + 0 = omega arith in ap (λ (n : ℕ). get_or s n 0) z ∙ byte_from 0

  byte_on : (k j : ℕ) → get_or s (a + k + j) 0 ≡ get_or xs (k + j) 0
  byte_on k j = let z : a + k + j ≡ a + (k + j) = omega arith in ap (λ (n : ℕ). get_or s n 0) z ∙ byte_from (k + j)

  two_from : (k : ℕ) → two_at s (a + k) ≡ two_at xs k
  two_from k = ap₂ (λ (x y : ℕ). x + y * 256) (byte_from k) (byte_on k 1)

  two_first : two_at s a ≡ two_at xs 0
  two_first = let z : a ≡ a + 0 = omega arith in ap (two_at s) z ∙ two_from 0

  word_from : (k : ℕ) → word_at s (a + k) ≡ word_at xs k
  word_from k = rw (byte_from k, byte_on k 1, byte_on k 2, byte_on k 3)

  drop_from : (k : ℕ) → drop (a + k) s ≡ drop k xs
  drop_from k = sym (drop-drop k a s) ∙ ap (λ (t : List ℕ). drop k t) e

-- ---- what stands in a body, with zs behind it
module _ (row : Row) (m : Model) (p : ℕ) (zs : List ℕ) where
  body_parent : row.parents ≡ true → get_or (body_of row m p ++ zs) parent_at 0 ≡ (thread m p).parent
  body_parent e = rw e

  body_places : drop (body_length row) (body_of row m p ++ zs) ≡ line m (inbox p) ++ zs
  body_places = by_test row.parents (λ t. rw t) (λ t. rw t)

module _ {strict : Bool} {row : Row} {m : Model} {s : List ℕ} (I : ImageAsBy strict row m s) where
  -- line q, and what is left behind it
  left_here : (q : ℕ) → drop (queue_at row s q) s ≡ joined (line m) (queues_from row q) ++ bodies row m (live_places m) → q < row.queues
      → drop (queue_at row s q) s ≡ line m q ++ (joined (line m) (queues_from row (q + 1)) ++ bodies row m (live_places m))
  left_here q e h =
      e
      ∙ ap (λ (qs : List ℕ). joined (line m) qs ++ bodies row m (live_places m)) (queues_step row q h)
      ∙ append_assoc (line m q) (joined (line m) (queues_from row (q + 1))) (bodies row m (live_places m))

  -- an image's offsets fit into two bytes
  pub short : length s < 2 ^ 16
  short = let l = longest_as row m (known_few I.known) (old_of strict I.consistent) in let z = ap length I.bytes in omega arith

  -- ---- the head

  from_start : s ≡ head row m ++ tail row m
  unfolding encode_as
  from_start = sym I.bytes

  pub edition_is : get_or s 0 0 ≡ row.edition
  edition_is = ap (λ (t : List ℕ). get_or t 0 0) from_start

  pub last_is : get_or s 1 0 ≡ m.last
  last_is = ap (λ (t : List ℕ). get_or t 1 0) from_start

  pub running_is : get_or s 2 0 ≡ m.running
  running_is = ap (λ (t : List ℕ). get_or t 2 0) from_start

  pub live_is : get_or s 3 0 ≡ live m
  live_is = ap (λ (t : List ℕ). get_or t 3 0) from_start

  -- the edition's number tells the row
  pub row_is : row ≡ row_at s
  row_is = known_row I.known ∙ ap row_of (sym edition_is)

  size_is : length s ≡ head_length row + length (tail row m)
  size_is = ap length (sym I.bytes) ∙ encode_length row m

  pub long_enough : head_length row ≤ length s
  long_enough = let z = size_is in omega arith

  in_head : drop lengths_at s ≡ queue_lengths row m ++ (two_bytes (head_length row + length (tail row m)) ++ tail row m)
  in_head = ap (drop lengths_at) (sym I.bytes) ∙ lengths_at_lem row m

  pub size_found : (q : ℕ) → q < row.queues → get_or s (lengths_at + q) 0 ≡ length (line m q)
  size_found q h = byte_from s lengths_at in_head q ∙ length_found (line m) (two_bytes (head_length row + length (tail row m)) ++ tail row m) row q h

  total : drop (total_at row) s ≡ two_bytes (head_length row + length (tail row m)) ++ tail row m
  total = drop_from s lengths_at in_head row.queues ∙ drop_at (queue_lengths row m) (two_bytes (head_length row + length (tail row m)) ++ tail row m) row.queues (lengths_length (line m) row)

  pub length_is : two_at s (total_at row) ≡ length s
  length_is = let h = short in let z = size_is in two_first s (total_at row) total ∙ two_back (head_length row + length (tail row m)) (omega arith) ∙ sym size_is

  -- ---- the queues

  -- from line q on
  pub queues_left : (q : ℕ) → q ≤ row.queues → drop (queue_at row s q) s ≡ joined (line m) (queues_from row q) ++ bodies row m (live_places m)
  unfolding queue_at
  queues_left zero h =
      ap (λ (n : ℕ). drop (head_length row + entry_length * n) s) live_is
      ∙ ap (drop (head_length row + entry_length * live m)) (sym I.bytes)
      ∙ queues_at row m
      ∙ ap (λ (qs : List ℕ). joined (line m) qs ++ bodies row m (live_places m)) (sym (queues_start row))
  queues_left (suc q) h =
      let e : q + 1 ≡ suc q = omega arith in
      drop_from s (queue_at row s q) (left_here q (queues_left q (omega arith)) (omega arith)) (get_or s (lengths_at + q) 0)
      ∙ drop_at (line m q) (joined (line m) (queues_from row (q + 1)) ++ bodies row m (live_places m)) (get_or s (lengths_at + q) 0) (sym (size_found q (omega arith)))
      ∙ ap (λ (n : ℕ). joined (line m) (queues_from row n) ++ bodies row m (live_places m)) e

  pub queue_found : (q : ℕ) → q < row.queues → take (get_or s (lengths_at + q) 0) (drop (queue_at row s q) s) ≡ line m q
  queue_found q h =
      ap (take (get_or s (lengths_at + q) 0)) (left_here q (queues_left q (omega arith)) h)
      ∙ take_at (line m q) (joined (line m) (queues_from row (q + 1)) ++ bodies row m (live_places m)) (get_or s (lengths_at + q) 0) (sym (size_found q h))

  -- ---- a live place p, with qs before it

  module _ (qs : List ℕ) (p : ℕ) (rs : List ℕ) (split : live_places m ≡ qs ++ (p ∷ rs)) where
    entry : drop (head_length row + entry_length * length qs) s ≡ p ∷ (thread m p).number ∷ two_bytes (offset row m qs) ++ behind row m qs p rs
    entry = ap (drop (head_length row + entry_length * length qs)) (sym I.bytes) ∙ entry_at row m qs p rs split

    pub body : drop (offset row m qs) s ≡ body_of row m p ++ bodies row m rs
    body = ap (drop (offset row m qs)) (sym I.bytes) ∙ body_at row m qs p rs split

    pub body_in_lem : offset row m qs + length (body_of row m p) ≤ length s
    body_in_lem =
        let e = length-append (body_of row m p) (bodies row m rs) in
        let d = length-drop (offset row m qs) s in
        let z = ap length body in
        omega arith

    pub place_is : get_or s (head_length row + entry_length * length qs) 0 ≡ p
    place_is = byte_first s (head_length row + entry_length * length qs) entry

    pub number_is : get_or s (head_length row + entry_length * length qs + 1) 0 ≡ (thread m p).number
    number_is = byte_from s (head_length row + entry_length * length qs) entry 1

    pub offset_is : two_at s (head_length row + entry_length * length qs + 2) ≡ offset row m qs
    offset_is = let h = short in let z = body_in_lem in two_from s (head_length row + entry_length * length qs) entry 2 ∙ two_back (offset row m qs) (omega arith)

    parent_is : parent_in row s (offset row m qs) ≡ (thread m p).parent
    parent_is =
        let f : Bool → ℕ = λ x. cond x (get_or s (offset row m qs + parent_at) 0) nobody in
        by_test row.parents
        (λ t. ap f t ∙ byte_from s (offset row m qs) body parent_at ∙ body_parent row m p (bodies row m rs) t)
        (λ t. ap f t ∙ sym (I.holds.parents t p))

    pub thread_is : thread_in row s (thread m p).number (offset row m qs) ≡ thread m p
    thread_is =
        let w = (old_of strict I.consistent).words p in
        rw (byte_first s (offset row m qs) body, byte_from s (offset row m qs) body 1, word_from s (offset row m qs) body 2, byte_from s (offset row m qs) body 6, byte_from s (offset row m qs) body 7, word_from s (offset row m qs) body 8, word_back (thread m p).word w.0, word_back (thread m p).answer w.1, parent_is)

    pub inbox_length : get_or s (offset row m qs + inbox_length_at) 0 ≡ length (line m (inbox p))
    inbox_length = byte_from s (offset row m qs) body inbox_length_at

    pub inbox_is : take (length (line m (inbox p))) (drop (offset row m qs + body_length row) s) ≡ line m (inbox p)
    inbox_is = ap (λ (t : List ℕ). take (length (line m (inbox p))) t) (drop_from s (offset row m qs) body (body_length row) ∙ body_places row m p (bodies row m rs)) ∙ take_at (line m (inbox p)) (bodies row m rs) (length (line m (inbox p))) refl
