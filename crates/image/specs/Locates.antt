-- What locating promises, of any bytes and any number: a code, and the offset and the length of the thread's body in the image. The code is load's own where
-- load refuses the bytes, and 4 where the number is not live in the image; then offset and length are 0. That this settles all three is shown in Locating.antt.
use Rattle.std.specs.Prelude.{◌≡◌, ◌≢◌, List, ◌∷◌, ◌++◌, true, ℕ, ◌+◌, ◌≤◌, ◌<◌, length, get_or}
use Rattle.rules.specs.Model.{Place, Model, thread, lives_at}
use Rattle.saving.specs.Format.{live_places, body_of, bodies, first_body}
use Rattle.saving.specs.declared.format.Row.{Row}
use Rattle.loading.specs.Entry.{entry_at}
use Rattle.loading.specs.Loads.{ImageAs, Image, Refuses}

-- the bytes are the image of m in the edition of the row, and n is the number of the live place `place`, with the live places `before` in front of it: its body starts behind theirs
pub record Spotted (s : List ℕ) (n offset len : ℕ) : Type 0 where
  pub row : Row
  pub m : Model
  pub image : ImageAs row m s
  pub place : Place
  pub before : List Place
  pub behind : List Place
  pub split : live_places m ≡ before ++ (place ∷ behind)
  pub number : (thread m place).number ≡ n
  pub starts : offset ≡ first_body row m + length (bodies row m before)
  pub long : len ≡ length (body_of row m place)

-- the bytes are the image of m, in which the number n does not live
pub record Absent (s : List ℕ) (n : ℕ) : Type 0 where
  pub m : Model
  pub image : Image m s
  pub nobody : (p : ℕ) → lives_at m p ≡ true → (thread m p).number ≢ n

pub data Locates (s : List ℕ) (n code offset len : ℕ) : Type 0 where
  spotted : Spotted s n offset len → code ≡ 0 → Locates s n code offset len
  missing : Absent s n → code ≡ 4 → offset ≡ 0 → len ≡ 0 → Locates s n code offset len
  unread : Refuses s code → offset ≡ 0 → len ≡ 0 → Locates s n code offset len

-- ---- what the inner functions tell one another

-- no entry has the number n
abbrev pub NoEntry : Row → List ℕ → ℕ → Type 0
NoEntry row s n = (k : ℕ) → k < get_or s 3 0 → get_or s (entry_at row k + 1) 0 ≢ n

-- i is the first entry with the number n
pub record FirstEntry (row : Row) (s : List ℕ) (n i : ℕ) : Type 0 where
  pub low : i < get_or s 3 0
  pub before : (k : ℕ) → k < i → get_or s (entry_at row k + 1) 0 ≢ n
  pub here : get_or s (entry_at row i + 1) 0 ≡ n

-- r is the first entry with the number n, or the live count
pub record EntryFor (row : Row) (s : List ℕ) (n r : ℕ) : Type 0 where
  pub upto : r ≤ get_or s 3 0
  pub before : (k : ℕ) → k < r → get_or s (entry_at row k + 1) 0 ≢ n
  pub here : r < get_or s 3 0 → get_or s (entry_at row r + 1) 0 ≡ n
