-- The table of editions: what is true of every row that it has. A new row adds an entry to each half of `rows`, and to no other law.
use Rattle.std.specs.Prelude.{ℕ, zero, suc, ◌≤◌, ◌<◌, ◌≡◌, refl, List, [], ◌∷◌, false, get_or}
use Rattle.std.proofs.Common.{sym, ap, ◌∙◌, arith}
use Rattle.std.proofs.Math.ListN.{get_or-eq_default}
use Rattle.lists.specs.Sizes.{places, queue_count}
use Rattle.lists.specs.Every.{Every}
use Rattle.lists.specs.Laws.{never}
use Rattle.rules.specs.Model.{Model}
use Rattle.saving.specs.Format.{queues_by, queues_of, parents_by, parents_of, places_by, places_of, row_of, Known, newest, Holds, shortest_head, head_length}
use Rattle.saving.specs.declared.format.Row.{Row}

-- what is asked of an entry: an edition that is known has a head of that length, and no queue more than there are; none has a place more than there are
abbrev Fair : ℕ → Type 0
Fair n = 0 < n → (shortest_head ≤ head_length (record { edition = 0; queues = n; parents = false; places = 0 })) × (n ≤ queue_count)

abbrev Few : ℕ → Type 0
Few n = n ≤ places

rows : Every Fair queues_by × Every Few places_by
rows = (
  (λ h. absurd (omega arith), (λ h. (omega arith, omega arith), (λ h. (omega arith, omega arith), (λ h. (omega arith, omega arith), (λ h. (omega arith, omega arith), tt {0}))))),
  (omega arith, (omega arith, (omega arith, (omega arith, (omega arith, tt {0}))))),
)

-- what is true of each entry, and of 0, is true of every number's
entry : (P : ℕ → Type 0) → P 0 → (xs : List ℕ) → Every P xs → (e : ℕ) → P (get_or xs e 0)
entry P z [] k e = z
entry P z (x ∷ xs) k zero = k.0
entry P z (x ∷ xs) k (suc e) = entry P z xs k.1 e

fair : (e : ℕ) → Fair (queues_of e)
unfolding queues_of
fair e = entry Fair (λ h. absurd (omega arith)) queues_by rows.0 e

few : (e : ℕ) → Few (places_of e)
unfolding places_of
few e = entry Few (omega arith) places_by rows.1 e

module _ {row : Row} (k : Known row) where
  row_fair : Fair row.queues
  row_fair = rw k.listed (fair row.edition)

  pub known_head : shortest_head ≤ head_length row
  known_head = (row_fair k.some).0

  pub known_few : row.queues ≤ queue_count
  known_few = (row_fair k.some).1

  pub known_places : row.places ≤ places
  known_places = rw k.placed (few row.edition)

  -- the row of its number
  pub known_row : row ≡ row_of row.edition
  known_row = λ i. record { edition = row.edition; queues = k.listed i; parents = k.parented i; places = k.placed i }

-- no edition behind the newest is known
pub past : (e : ℕ) → newest.edition < e → queues_of e ≡ 0
unfolding queues_of
past e h = get_or-eq_default queues_by 0 {n = e} (omega arith)

pub past_parents : (e : ℕ) → newest.edition < e → parents_of e ≡ false
unfolding parents_of
past_parents e h = get_or-eq_default parents_by false {n = e} (omega arith)

pub past_places : (e : ℕ) → newest.edition < e → places_of e ≡ 0
unfolding places_of
past_places e h = get_or-eq_default places_by 0 {n = e} (omega arith)

-- the number tells the row
pub known_one : {row other : Row} → Known row → Known other → row.edition ≡ other.edition → row ≡ other
known_one k j e = known_row k ∙ ap row_of e ∙ sym (known_row j)

-- an edition that has queues is known
pub known_of : (e : ℕ) → ((row_of e).queues ≡ 0 → ⊥) → Known (row_of e)
known_of e n = record { listed = refl; parented = refl; placed = refl; some = omega (arith, n) }

-- the newest is known, and holds any model
pub newest_known : Known newest
unfolding queues_of parents_of places_of
newest_known = record { listed = refl; parented = refl; placed = refl; some = omega arith }

pub newest_holds : (m : Model) → Holds newest m
newest_holds m = record { queues = λ q h k. absurd (omega arith); parents = λ e p. never refl e; places = λ p h k. absurd (omega arith) }
