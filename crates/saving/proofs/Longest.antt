-- How long an image is: its parts, and that none is longer than the longest. A place stands in one line at most, so all lines together are no longer than one
-- could be.
use Rattle.std.specs.Prelude.{ℕ, ◌+◌, ◌*◌, ◌≤◌, ◌<◌, ◌≡◌, refl, List, [], ◌∷◌, ◌++◌, map, true, false, length}
use Rattle.std.proofs.Common.{sym, ap, ◌∙◌, arith, length-append}
use Rattle.lists.specs.Sizes.{queue_count}
use Rattle.lists.specs.Lists.{bit, count, among, Distinct, up_from}
use Rattle.lists.specs.Laws.{by_test, not_head, not_tail, not_cons, not_append, is_head, is_tail}
use Rattle.lists.specs.Counts.{count_append, among_none, among_some, count_distinct}
use Rattle.lists.specs.Search.{up_from_distinct, up_from_within}
use Rattle.lists.specs.Without.{pigeon}
use Rattle.lists.specs.Only.{only_distinct, only_few, only_tally}
use Rattle.lists.specs.Tables.{bit_low, tally_ext}
use Rattle.lists.specs.Bytes.{two_bytes}
use Rattle.rules.specs.Model.{Place, Number, places, Model, inbox, thread, line, all_places, lives_at, live}
use Rattle.rules.specs.Consistent.{belongs, OldConsistent, Consistent}
use Rattle.order.specs.Sound.{Sound, old_sound}
use Rattle.order.specs.Stood.{stands_once, no_place}
use Rattle.saving.specs.Format.{newest, head_length, entry_length, body_length, live_places, parent_bytes, body_of, bodies, contents, queues_in, joined, queue_lengths, queues, first_body, tail, head, encode_as, encode}
use Rattle.saving.specs.Queues.{inbox_at, lengths_length, joined_append}
use Rattle.saving.specs.declared.format.Row.{Row}
use Rattle.saving.specs.Longest.{longest_image, inboxes}

-- ---- the live places
-- the live count is how many there are
pub live_length : (m : Model) → live m ≡ length (live_places m)
unfolding all_places
live_length m = sym (only_tally (lives_at m) 0 places ∙ tally_ext places (λ i. lives_at m (0 + i)) (lives_at m) (λ i h. ap (lives_at m) (omega arith)))

pub live_distinct : (m : Model) → Distinct (live_places m)
unfolding all_places
live_distinct m = only_distinct (lives_at m) (up_from 0 places) (up_from_distinct places 0)

pub live_few : (m : Model) → length (live_places m) ≤ places
unfolding all_places
live_few m = only_few (lives_at m) 0 places

pub parent_length : (row : Row) (n : Number) → length (parent_bytes row n) ≡ bit row.parents
parent_length row n = by_test row.parents (λ t. rw t) (λ t. rw t)

pub body_length_lem : (row : Row) (m : Model) (p : Place) → length (body_of row m p) ≡ body_length row + length (line m (inbox p))
body_length_lem row m p = let a = parent_length row (thread m p).parent in simp length-append (omega arith)

pub bodies_length : (row : Row) (m : Model) (ps : List Place) → length (bodies row m ps) ≡ body_length row * length ps + length (inboxes m ps)
bodies_length row m [] = omega arith
bodies_length row m (p ∷ ps) =
    let i = bodies_length row m ps in
    let a = length-append (body_of row m p) (bodies row m ps) in
    let b = body_length_lem row m p in
    let c = length-append (line m (inbox p)) (inboxes m ps) in
    omega arith

pub contents_length : (row : Row) (m : Model) (o : ℕ) (ps : List Place) → length (contents row m o ps) ≡ entry_length * length ps
contents_length row m o [] = refl
contents_length row m o (p ∷ ps) = let i = contents_length row m (o + length (body_of row m p)) ps in omega arith

-- the total: what the offset has come to behind the last body
pub tail_length : (row : Row) (m : Model) → head_length row + length (tail row m) ≡ first_body row m + length (bodies row m (live_places m))
tail_length row m =
    let a = length-append (contents row m (first_body row m) (live_places m)) (queues row m ++ bodies row m (live_places m)) in
    let b = length-append (queues row m) (bodies row m (live_places m)) in
    let c = contents_length row m (first_body row m) (live_places m) in
    omega arith

pub head_length_lem : (row : Row) (m : Model) → length (head row m) ≡ head_length row
head_length_lem row m =
    let a = length-append (queue_lengths row m) (two_bytes (head_length row + length (tail row m))) in
    let b = lengths_length (line m) row in
    omega arith

pub encode_length : (row : Row) (m : Model) → length (encode_as row m) ≡ head_length row + length (tail row m)
unfolding encode_as
encode_length row m = let a = length-append (head row m) (tail row m) in let b = head_length_lem row m in omega arith

-- ---- all lines together
distinct_append : (xs ys : List ℕ) → Distinct xs → Distinct ys → ((x : ℕ) → among x xs ≡ true → among x ys ≡ false) → Distinct (xs ++ ys)
distinct_append [] ys d e f = e
distinct_append (x ∷ xs) ys d e f = (not_append x xs ys d.0 (f x (is_head x x xs refl)), distinct_append xs ys d.1 e (λ y h. f y (is_tail y x xs h)))

-- an inbox stands among the inboxes of the places among which its place stands, and no queue does
inbox_not : (p : Place) (ps : List Place) → among p ps ≡ false → among (inbox p) (map inbox ps) ≡ false
inbox_not p [] h = refl
inbox_not p (x ∷ ps) h =
    let n = not_head p x ps h in
    let a = inbox_at p in
    let b = inbox_at x in
    not_cons (inbox p) (inbox x) (map inbox ps) (λ e. n (omega arith)) (inbox_not p ps (not_tail p x ps h))

queue_not : (q : ℕ) → q < queue_count → (ps : List Place) → among q (map inbox ps) ≡ false
queue_not q h [] = refl
queue_not q h (p ∷ ps) = let a = inbox_at p in not_cons q (inbox p) (map inbox ps) (λ e. omega arith) (queue_not q h ps)

inboxes_distinct : (ps : List Place) → Distinct ps → Distinct (map inbox ps)
inboxes_distinct [] d = tt
inboxes_distinct (p ∷ ps) d = (inbox_not p ps d.0, inboxes_distinct ps d.1)

-- the queues of a row, and the inboxes of the live places: no line twice
abbrev all_lines : Row → Model → List ℕ
all_lines row m = queues_in row ++ map inbox (live_places m)

all_distinct : (row : Row) (m : Model) → row.queues ≤ queue_count → Distinct (all_lines row m)
unfolding queues_in
all_distinct row m h =
    distinct_append (up_from 0 row.queues) (map inbox (live_places m)) (up_from_distinct row.queues 0) (inboxes_distinct (live_places m) (live_distinct m))
    (λ q k. let w = up_from_within row.queues 0 q (among_some q (up_from 0 row.queues) k) in queue_not q (omega arith) (live_places m))

module _ (m : Model) (S : Sound m) where
  -- who stands in a line stands in none of any others
  absent : (p q : ℕ) → among p (line m q) ≡ true → (qs : List ℕ) → among q qs ≡ false → count p (joined (line m) qs) ≡ 0
  absent p q h [] n = refl
  absent p q h (r ∷ qs) n =
      let i = absent p q h qs (not_tail q r qs n) in
      let z = among_none p (line m r) (stands_once m S p q r h (not_head q r qs n)) in
      let c = count_append p (line m r) (joined (line m) qs) in
      omega arith

  -- a place stands once in its line, ..
  once_in : (p q : ℕ) → count p (line m q) ≤ 1
  once_in p q = let e = S.stood p q in let b = bit_low (belongs m (thread m p) q) in omega arith

  -- .. and so once in different lines together
  once : (p : ℕ) (qs : List ℕ) → Distinct qs → count p (joined (line m) qs) ≤ 1
  once p [] d = omega arith
  once p (q ∷ qs) d =
      let c = count_append p (line m q) (joined (line m) qs) in
      let i = once p qs d.1 in
      by_test (among p (line m q))
      (λ t. let a = once_in p q in let b = absent p q t qs d.0 in omega arith)
      (λ t. let a = among_none p (line m q) t in omega arith)

  no_place_in : (qs : List ℕ) (i : ℕ) → places ≤ i → among i (joined (line m) qs) ≡ false
  no_place_in [] i h = refl
  no_place_in (q ∷ qs) i h = not_append i (line m q) (joined (line m) qs) (no_place m S q i h) (no_place_in qs i h)

  lines_few : (qs : List ℕ) → Distinct qs → length (joined (line m) qs) ≤ places
  lines_few qs d = pigeon places (joined (line m) qs) (no_place_in qs) (count_distinct (joined (line m) qs) (λ p. once p qs d))

  pub queues_few : (row : Row) → row.queues ≤ queue_count → length (queues row m) + length (inboxes m (live_places m)) ≤ places
  queues_few row h =
      let a = lines_few (all_lines row m) (all_distinct row m h) in
      let b = ap length (joined_append (line m) (queues_in row) (map inbox (live_places m))) in
      let c = length-append (queues row m) (inboxes m (live_places m)) in
      omega arith

-- ---- the longest
-- no body is longer than one of the newest edition
bodies_few : (row : Row) (n : ℕ) → body_length row * n ≤ body_length newest * n
bodies_few row n = by_test row.parents (λ t. rw t (omega arith)) (λ t. rw t (omega arith))

pub longest_as : (row : Row) (m : Model) → row.queues ≤ queue_count → OldConsistent m → length (encode_as row m) ≤ longest_image
longest_as row m h C =
    let a = encode_length row m in
    let b = tail_length row m in
    let c = bodies_length row m (live_places m) in
    let d = bodies_few row (length (live_places m)) in
    let e = live_few m in
    let f = queues_few m (old_sound m C) row h in
    omega arith

pub longest : (m : Model) → Consistent m → length (encode m) ≤ longest_image
longest m C = longest_as newest m (omega arith) C.old
