-- How an image is read into a candidate without trust: what the inner functions of load tell one another. Nothing is known of the bytes; so whatever is said of
-- what was read is said for every model m of which the bytes may be the image.
use Rattle.std.specs.Prelude.{◌≡◌, List, [], ◌++◌, Bool, true, false, cond, ℕ, zero, suc, ◌+◌, ◌*◌, ◌-◌, ◌≤◌, ◌<◌, ltb, length, take, drop, get_or}
use Rattle.lists.specs.Sizes.{queue_count}
use Rattle.lists.specs.Lists.{among, Distinct}
use Rattle.lists.specs.Bytes.{word_at}
use Rattle.lines.specs.Lines.{line_of, Loose, Tidy, Turned, Clear}
use Rattle.rules.specs.Values.{nobody}
use Rattle.rules.specs.Model.{places, line_count, Empty, Thread, vacant, Model, thread, line, live}
use Rattle.table.specs.Cells.{cell, thread_of}
use Rattle.table.specs.Clean.{Sized}
use Rattle.table.specs.declared.Arrays.{Arrays}
use Rattle.saving.specs.Format.{lengths_at, head_length, entry_length, parent_at, live_places}
use Rattle.saving.specs.declared.format.Row.{Row}
use Rattle.loading.specs.Loads.{ImageAsBy}

-- ---- places that go into a line

-- they can join the lines of l: different places that stand in none
pub record Free (l xs : List ℕ) : Type 0 where
  pub distinct : Distinct xs
  pub low : (x : ℕ) → among x xs ≡ true → x < places
  pub loose : (x : ℕ) → among x xs ≡ true → Loose line_count (line_of places l) x

-- of the n places that the bytes have from `from` on the first i have joined line q, if they could
pub record Joined (s : List ℕ) (from n q i : ℕ) (l l' : List ℕ) : Type 0 where
  pub turned : (xs : List ℕ) → take n (drop from s) ≡ xs → length xs ≡ n → Tidy places line_count l → Free l xs
      → Turned places line_count l l' q (line_of places l q ++ take i xs)

-- ---- a thread

-- the parent in the body that starts at o: 255 where the row has none
abbrev pub parent_in : Row → List ℕ → ℕ → ℕ
parent_in row s o = cond row.parents (get_or s (o + parent_at) 0) nobody

-- the thread with the number n whose body starts at o
abbrev pub thread_in : Row → List ℕ → ℕ → ℕ → Thread
thread_in row s n o = record {
  number = n;
  standing = get_or s o 0;
  partner = get_or s (o + 1) 0;
  word = word_at s (o + 2);
  code = get_or s (o + 6) 0;
  who = get_or s (o + 7) 0;
  answer = word_at s (o + 8);
  parent = parent_in row s o;
}

-- ---- how far the reading has come

-- the lines of which f holds are those of m, and the others are still empty
pub record Filed (m : Model) (f : ℕ → Bool) (l : List ℕ) : Type 0 where
  pub tidy : Tidy places line_count l
  pub lines : (q : ℕ) → q < line_count → line_of places l q ≡ cond (f q) (line m q) []

-- the queues, and the inboxes of the places ps
abbrev pub opened : List ℕ → ℕ → Bool
opened ps q = cond (ltb q queue_count) true (among (q - queue_count) ps)

-- the threads at the places ps are those of m, and the other places are still empty
pub record Seats (m : Model) (ps b w : List ℕ) : Type 0 where
  pub sized : Sized b w
  pub threads : (p : ℕ) → p < places → thread_of b w p ≡ cond (among p ps) (thread m p) vacant

-- the places ps have been read
pub record Upto (m : Model) (ps : List ℕ) (a : Arrays) : Type 0 where
  pub seats : Seats m ps a.table.blocks a.table.words
  pub filed : Filed m (opened ps) a.lines

-- where the places of line q start, by the lengths in the head. (No abbrev: at a numeral q it would unfold q deep wherever it stands.)
unfoldable pub queue_at : Row → List ℕ → ℕ → ℕ
queue_at row s zero = head_length row + entry_length * get_or s 3 0
queue_at row s (suc q) = queue_at row s q + get_or s (lengths_at + q) 0

-- the queues before line q have been read
pub record QueuesUpto (row : Row) (s : List ℕ) (q at : ℕ) (l l' : List ℕ) : Type 0 where
  pub from : at ≡ queue_at row s q
  pub filed : (strict : Bool) (m : Model) → ImageAsBy strict row m s → Clear places line_count l → Filed m (λ r. ltb r q) l'

-- and all of them
pub record QueuesRead (row : Row) (s l l' : List ℕ) : Type 0 where
  pub filed : (strict : Bool) (m : Model) → ImageAsBy strict row m s → Clear places line_count l → Filed m (opened []) l'

-- nobody has a parent
abbrev pub Parentless : List ℕ → Type 0
Parentless b = (p : ℕ) → p < places → get_or b (cell 5 p) 0 ≡ nobody

-- nobody lives at the places from n on
abbrev pub NobodyFrom : ℕ → List ℕ → Type 0
NobodyFrom n b = (p : ℕ) → n ≤ p → p < places → get_or b (cell 1 p) 0 ≡ Empty

-- the entries of the contents from i to k have been read
pub record Entered (row : Row) (s : List ℕ) (i k : ℕ) (a a' : Arrays) : Type 0 where
  pub sized : Sized a'.table.blocks a'.table.words
  pub parentless : row.parents ≡ false → Parentless a.table.blocks → Parentless a'.table.blocks
  pub beyond : NobodyFrom row.places a.table.blocks → NobodyFrom row.places a'.table.blocks
  pub reads : (strict : Bool) (m : Model) → ImageAsBy strict row m s → k < suc (live m) → Upto m (take i (live_places m)) a → Upto m (take k (live_places m)) a'
