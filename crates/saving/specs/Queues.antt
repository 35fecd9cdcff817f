-- The queues of a row, line by line, as the loops go through them; and how queues and inboxes lie among the lines.
use Rattle.std.specs.Prelude.{ℕ, zero, suc, ◌+◌, ◌-◌, ◌≤◌, ◌<◌, ◌≡◌, refl, List, [], ◌∷◌, ◌++◌, ltb, length, get_or}
use Rattle.std.proofs.Common.{sym, ap, ap₂, subst, ◌∙◌, append_assoc, arith, ltb-true, ltb-false, length-append}
use Rattle.lists.specs.Sizes.{queue_count}
use Rattle.lists.specs.Lists.{up_from}
use Rattle.lists.specs.Laws.{by_test}
use Rattle.lists.specs.Search.{up_from_step, up_from_length}
use Rattle.lists.specs.Laid.{laid_length}
use Rattle.rules.specs.Model.{Place, places, line_count, inbox}
use Rattle.saving.specs.Format.{queues_in, sizes, joined}
use Rattle.saving.specs.Puts.{HasRoom, Puts, Putting, putting_start, putting_by, putting_room, putting_more, putting_end}
use Rattle.saving.specs.declared.format.Row.{Row}
use Rattle.saving.specs.declared.writer.Writer.{Writer}

-- ---- the lines are the queues and, behind them, the inboxes
pub inbox_at : (p : Place) → inbox p ≡ queue_count + p
inbox_at p = omega arith

-- what holds of every queue and of every inbox holds of every line
pub each_line : (G : ℕ → Type 0) → ((q : ℕ) → q < queue_count → G q) → ((p : Place) → p < places → G (inbox p)) → (q : ℕ) → q < line_count → G q
each_line G f g q h =
    by_test (ltb q queue_count)
    (λ t. f q (ltb-true q queue_count t))
    (λ t.
    let k = ltb-false q queue_count t in
    let e : inbox (q - queue_count) ≡ q = inbox_at (q - queue_count) ∙ omega arith in
    subst G e (g (q - queue_count) (omega arith)))

-- ---- from line q on. (No abbrev: of numerals it would be written out wherever it stands.)
unfoldable pub queues_from : Row → ℕ → List ℕ
queues_from row q = up_from q (row.queues - q)

pub queues_start : (row : Row) → queues_from row 0 ≡ queues_in row
unfolding queues_from queues_in
queues_start row = let e : row.queues - 0 ≡ row.queues = omega arith in ap (λ (k : ℕ). up_from 0 k) e

pub queues_step : (row : Row) (q : ℕ) → q < row.queues → queues_from row q ≡ q ∷ queues_from row (q + 1)
unfolding queues_from
queues_step row q h = up_from_step row.queues q h

pub queues_end : (row : Row) (q : ℕ) → row.queues ≤ q → queues_from row q ≡ []
unfolding queues_from
queues_end row q h = let e : row.queues - q ≡ 0 = omega arith in ap (λ (k : ℕ). up_from q k) e

-- ---- lines that are the same
module _ (f g : ℕ → List Place) (n : ℕ) (same : (q : ℕ) → q < n → f q ≡ g q) where
  sizes_upto : (k i : ℕ) → k + i ≤ n → sizes f (up_from k i) ≡ sizes g (up_from k i)
  sizes_upto k zero h = refl
  sizes_upto k (suc i) h = ap₂ (λ (x : List Place) (y : List ℕ). length x ∷ y) (same k (omega arith)) (sizes_upto (suc k) i (omega arith))

  joined_upto : (k i : ℕ) → k + i ≤ n → joined f (up_from k i) ≡ joined g (up_from k i)
  joined_upto k zero h = refl
  joined_upto k (suc i) h = ap₂ (λ (x y : List Place). x ++ y) (same k (omega arith)) (joined_upto (suc k) i (omega arith))

  pub sizes_same : (row : Row) → row.queues ≤ n → sizes f (queues_in row) ≡ sizes g (queues_in row)
  unfolding queues_in
  sizes_same row h = sizes_upto 0 row.queues (omega arith)

  pub joined_same : (row : Row) → row.queues ≤ n → joined f (queues_in row) ≡ joined g (queues_in row)
  unfolding queues_in
  joined_same row h = joined_upto 0 row.queues (omega arith)

pub sizes_length : (f : ℕ → List Place) (qs : List ℕ) → length (sizes f qs) ≡ length qs
sizes_length f [] = refl
sizes_length f (q ∷ qs) = let e = sizes_length f qs in omega arith

-- a length for each queue of the row
pub lengths_length : (f : ℕ → List Place) (row : Row) → length (sizes f (queues_in row)) ≡ row.queues
unfolding queues_in
lengths_length f row = sizes_length f (up_from 0 row.queues) ∙ up_from_length 0 row.queues

-- which stands where the line's number says
size_at : (f : ℕ → List Place) (xs : List ℕ) (n k q : ℕ) → q < n → get_or (sizes f (up_from k n) ++ xs) q 0 ≡ length (f (k + q))
size_at f xs zero k q h = absurd (omega arith)
size_at f xs (suc n) k zero h = let e : k ≡ k + 0 = omega arith in ap (λ (i : ℕ). length (f i)) e
size_at f xs (suc n) k (suc q) h = let e : suc k + q ≡ k + suc q = omega arith in size_at f xs n (suc k) q (omega arith) ∙ ap (λ (i : ℕ). length (f i)) e

pub length_found : (f : ℕ → List Place) (xs : List ℕ) (row : Row) (q : ℕ) → q < row.queues → get_or (sizes f (queues_in row) ++ xs) q 0 ≡ length (f q)
unfolding queues_in
length_found f xs row q h = let e : 0 + q ≡ q = omega arith in size_at f xs row.queues 0 q h ∙ ap (λ (i : ℕ). length (f i)) e

pub joined_append : (f : ℕ → List Place) (xs ys : List ℕ) → joined f (xs ++ ys) ≡ joined f xs ++ joined f ys
joined_append f [] ys = refl
joined_append f (x ∷ xs) ys = ap (λ (t : List Place). f x ++ t) (joined_append f xs ys) ∙ sym (append_assoc (f x) (joined f xs) (joined f ys))

-- ---- they are counted: how many places wait from line q on
module _ (f : ℕ → List Place) (row : Row) where
  pub waiting_start : length (joined f (queues_from row 0)) ≡ length (joined f (queues_in row))
  waiting_start = ap (λ (qs : List ℕ). length (joined f qs)) (queues_start row)

  pub waiting_step : (q : ℕ) → q < row.queues → length (joined f (queues_from row q)) ≡ length (f q) + length (joined f (queues_from row (q + 1)))
  waiting_step q h = ap (λ (qs : List ℕ). length (joined f qs)) (queues_step row q h) ∙ length-append (f q) (joined f (queues_from row (q + 1)))

  pub waiting_end : (q : ℕ) → row.queues ≤ q → length (joined f (queues_from row q)) ≡ 0
  waiting_end q h = ap (λ (qs : List ℕ). length (joined f qs)) (queues_end row q h)

-- ---- they are written, lengths or places: g of the row's queues was to be written from v on; the loop has come to line q, and the writer is w
pub record Queueing (g : List ℕ → List ℕ) (row : Row) (v w : Writer) (q : ℕ) : Type 0 where
  pub putting : Putting v (g (queues_in row)) w (g (queues_from row q))

pub queueing_start : (g : List ℕ → List ℕ) (row : Row) (v : Writer) → HasRoom v (g (queues_in row)) → Queueing g row v v 0
queueing_start g row v h = record { putting = rw (queues_start row) (putting_start v (g (queues_in row)) h) }

module _ {g : List ℕ → List ℕ} {row : Row} {v w : Writer} {q : ℕ} (k : Queueing g row v w q) where
  -- ys is what line q adds
  module _ (h : q < row.queues) (ys : List ℕ) (adds : (qs : List ℕ) → g (q ∷ qs) ≡ ys ++ g qs) where
    split : Putting v (g (queues_in row)) w (ys ++ g (queues_from row (q + 1)))
    split = putting_by k.putting (ap g (queues_step row q h) ∙ adds (queues_from row (q + 1)))

    pub queueing_room : HasRoom w ys
    queueing_room = putting_room ys (g (queues_from row (q + 1))) split

    pub queueing_more : {u : Writer} → Puts w ys u → Queueing g row v u (q + 1)
    queueing_more p = record { putting = putting_more split p }

  pub queueing_length : HasRoom v (g (queues_in row)) → length w.out.now ≡ length v.out.now
  queueing_length h = sym k.putting.going.whole ∙ laid_length v.out.now v.at (g (queues_in row)) h

  pub queueing_end : g [] ≡ [] → row.queues ≤ q → Puts v (g (queues_in row)) w
  queueing_end e h = putting_end (putting_by k.putting (ap g (queues_end row q h) ∙ e))
