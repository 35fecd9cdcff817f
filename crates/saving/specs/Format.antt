-- THE IMAGE (document 01, "The image and the log"; document 02, P1, P5 and P6), in the documents' order and words. Saving, loading and looking up are all held
-- to this one text, and so is every edition: what an edition has of the format is its row of the table.
use Rattle.std.specs.Prelude.{ℕ, ◌+◌, ◌*◌, ◌≤◌, ◌<◌, ◌≡◌, List, [], ◌∷◌, ◌++◌, Bool, true, false, cond, length, get_or}
use Rattle.lists.specs.Sizes.{places, queue_count}
use Rattle.lists.specs.Lists.{bit, up_from, only}
use Rattle.lists.specs.Bytes.{two_bytes, word_bytes}
use Rattle.rules.specs.Values.{nobody}
use Rattle.rules.specs.Model.{Place, Number, Empty, Thread, Model, inbox, thread, line, all_places, lives_at, live}
use Rattle.saving.specs.declared.format.Row.{Row}

-- ---- the table of editions
-- How many queues each edition has, by its number: edition 1 has ready and clock, those behind it those of the 48 devices too. An edition that
-- has none is not known.
abbrev pub queues_by : List ℕ
queues_by = 0 ∷ 2 ∷ queue_count ∷ queue_count ∷ queue_count ∷ []

unfoldable pub queues_of : ℕ → ℕ
queues_of e = get_or queues_by e 0

-- Which editions have each thread's parent: edition 3, and those behind it.
abbrev pub parents_by : List Bool
parents_by = false ∷ false ∷ false ∷ true ∷ true ∷ []

unfoldable pub parents_of : ℕ → Bool
parents_of e = get_or parents_by e false

-- the places that there were before P6
abbrev pub places_before : ℕ
places_before = 32

-- How many places each edition may name, by its number: the editions below 4 those that there were before P6, and edition 4 every one. In all else edition 4
-- has edition 3's layout.
abbrev pub places_by : List ℕ
places_by = 0 ∷ places_before ∷ places_before ∷ places_before ∷ places ∷ []

unfoldable pub places_of : ℕ → ℕ
places_of e = get_or places_by e 0

-- the row of an edition: its number, how many queues it has, which are the lines 0, 1, .., whether it has parents, and how many places, which are 0, 1, ..
abbrev pub row_of : ℕ → Row
row_of e = record { edition = e; queues = queues_of e; parents = parents_of e; places = places_of e }

pub record Known (row : Row) : Type 0 where
  pub listed : row.queues ≡ queues_of row.edition
  pub parented : row.parents ≡ parents_of row.edition
  pub placed : row.places ≡ places_of row.edition
  pub some : 0 < row.queues

-- the newest edition, which a save writes, has every queue, parents, and every place
abbrev pub newest : Row
newest = record { edition = 4; queues = queue_count; parents = true; places = places }

-- In a model that a row can hold, the queues that it has not are empty, nobody has a parent where it has no parents, and nobody lives at a place that it has
-- not.
pub record Holds (row : Row) (m : Model) : Type 0 where
  pub queues : (q : ℕ) → row.queues ≤ q → q < queue_count → line m q ≡ []
  pub parents : row.parents ≡ false → (p : Place) → (thread m p).parent ≡ nobody
  pub places : (p : Place) → row.places ≤ p → p < places → (thread m p).standing ≡ Empty

-- ---- the lengths of the parts
-- the head has four bytes, one for each queue, and two
abbrev pub lengths_at : ℕ
lengths_at = 4

abbrev pub total_at : Row → ℕ
total_at row = lengths_at + row.queues

abbrev pub head_length : Row → ℕ
head_length row = total_at row + 2

-- no edition's head is shorter than that of edition 1
abbrev pub shortest_head : ℕ
shortest_head = 8

abbrev pub entry_length : ℕ
entry_length = 4

-- a body without its inbox: 13 bytes, of which the last is the inbox length, and (from edition 3 on) the parent
abbrev pub inbox_length_at : ℕ
inbox_length_at = 12

abbrev pub parent_at : ℕ
parent_at = 13

abbrev pub body_length : Row → ℕ
body_length row = parent_at + bit row.parents

-- ---- the parts
-- the live threads' places, by rising place
abbrev pub live_places : Model → List Place
live_places m = only (lives_at m) all_places

-- each thread: standing, partner, word (4), answer code, who, answer word (4) ..
abbrev pub thread_bytes : Thread → List ℕ
thread_bytes t = t.standing ∷ t.partner ∷ word_bytes t.word ++ (t.code ∷ t.who ∷ word_bytes t.answer)

-- .. inbox length, (from edition 3 on) parent ..
abbrev pub parent_bytes : Row → Number → List ℕ
parent_bytes row n = cond row.parents (n ∷ []) []

-- .. inbox places. 14 bytes plus the inbox, and 13 in editions 1 and 2.
abbrev pub body_of : Row → Model → Place → List ℕ
body_of row m p = thread_bytes (thread m p) ++ (length (line m (inbox p)) ∷ parent_bytes row (thread m p).parent ++ line m (inbox p))

abbrev pub bodies : Row → Model → List Place → List ℕ
bodies row m [] = []
bodies row m (p ∷ ps) = body_of row m p ++ bodies row m ps

-- Contents: 4 bytes per live thread by rising place: place, number, offset of its body from the image's start (2). The first body starts at o.
abbrev pub contents : Row → Model → ℕ → List Place → List ℕ
contents row m o [] = []
contents row m o (p ∷ ps) = p ∷ (thread m p).number ∷ two_bytes o ++ contents row m (o + length (body_of row m p)) ps

-- the queues of a row, by rising line. (No abbrev: of a row of numerals it would be written out wherever it stands.)
unfoldable pub queues_in : Row → List ℕ
queues_in row = up_from 0 row.queues

-- how long each of these lines is, and their places, front first, one line behind the other
abbrev pub sizes : (ℕ → List Place) → List ℕ → List ℕ
sizes f [] = []
sizes f (q ∷ qs) = length (f q) ∷ sizes f qs

abbrev pub joined : (ℕ → List Place) → List ℕ → List Place
joined f [] = []
joined f (q ∷ qs) = f q ++ joined f qs

abbrev pub queue_lengths : Row → Model → List ℕ
queue_lengths row m = sizes (line m) (queues_in row)

-- Bodies, no gaps: ready places front first; clock places; (from edition 2 on) the device queues' places after the clock's; then each thread.
abbrev pub queues : Row → Model → List Place
queues row m = joined (line m) (queues_in row)

-- where the first thread's body starts
abbrev pub first_body : Row → Model → ℕ
first_body row m = head_length row + entry_length * length (live_places m) + length (queues row m)

-- all behind the head
abbrev pub tail : Row → Model → List ℕ
tail row m = contents row m (first_body row m) (live_places m) ++ (queues row m ++ bodies row m (live_places m))

-- Head: edition, last number, running place or 255, live count, ready length, clock length, (from edition 2 on) 48 queue lengths after the clock length, and
-- the total length (2 bytes) after them. It has 8 bytes in edition 1, and 56 from edition 2 on.
abbrev pub head : Row → Model → List ℕ
head row m = row.edition ∷ m.last ∷ m.running ∷ live m ∷ queue_lengths row m ++ two_bytes (head_length row + length (tail row m))

-- A table of contents comes first, then the bodies. (No abbrev: it would be written out wherever it stands.)
unfoldable pub encode_as : Row → Model → List ℕ
encode_as row m = head row m ++ tail row m

-- what is saved
abbrev pub encode : Model → List ℕ
encode m = encode_as newest m
