-- Which places an image names: none that its edition has not, wherever it stands (document 02, P6). So bytes of an edition below 4 that name a place which
-- there was not before P6 get 10, by the rules as they are and by the old ones, so that the update refuses them too.
-- Here stand the words; the laws of them stand in proofs/Named.antt.
use Rattle.std.specs.Prelude.{ℕ, ◌+◌, ◌<◌, ◌≡◌, ◌≢◌, List, true, take, drop}
use Rattle.std.proofs.Math.ListN.{get_or}
use Rattle.lists.specs.Lists.{none, among}
use Rattle.rules.specs.Model.{Place}
use Rattle.saving.specs.Format.{lengths_at, inbox_length_at, body_length}
use Rattle.saving.specs.declared.format.Row.{Row}
use Rattle.loading.specs.Reading.{queue_at}
use Rattle.loading.specs.Entry.{entry_at, body_at}

-- the places of line q, and of the inbox of entry i, as they stand in the bytes
abbrev pub queue_in : Row → List ℕ → ℕ → List Place
queue_in row s q = take (get_or s (lengths_at + q) 0) (drop (queue_at row s q) s)

abbrev pub inbox_in : Row → List ℕ → ℕ → List Place
inbox_in row s i = take (get_or s (body_at row s i + inbox_length_at) 0) (drop (body_at row s i + body_length row) s)

-- the bytes name no place that the row has not: as the running place, in the contents, in a queue, or in an inbox
pub record NamesItsPlaces (row : Row) (s : List ℕ) : Type 0 where
  pub running : get_or s 2 0 ≢ none → get_or s 2 0 < row.places
  pub contents : (i : ℕ) → i < get_or s 3 0 → get_or s (entry_at row i) 0 < row.places
  pub queues : (q : ℕ) → q < row.queues → (p : Place) → among p (queue_in row s q) ≡ true → p < row.places
  pub inboxes : (i : ℕ) → i < get_or s 3 0 → (p : Place) → among p (inbox_in row s i) ≡ true → p < row.places
