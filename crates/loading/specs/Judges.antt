-- Judging a candidate: why bytes are refused, and why they are accepted. Assumes nothing.
use Rattle.std.specs.Prelude.{◌≡◌, refl, ◌≢◌, List, [], Bool, true, false, ℕ, zero, suc, ◌+◌, ◌-◌, ◌≤◌, ◌<◌, eqb, ltb, length, take, drop, get_or}
use Rattle.std.proofs.Common.{sym, ap, subst, ◌∙◌, add-one, arith, length-append, take-suc, take_all, take_at, length-take-le, get_or-take, eq-eqb, ne_eqb, eqb-true, lt-ltb, le-ltb, ltb-true, ltb-false}
use Rattle.std.proofs.lemmas.Bool.{eqb-false}
use Rattle.lists.specs.Sizes.{queue_count}
use Rattle.lists.specs.Lists.{none, front}
use Rattle.std.specs.List.{list_all, range_with_len}
use Rattle.lists.specs.Laws.{by_test, never, front_none}
use Rattle.lists.specs.Tells.{Tells}
use Rattle.lists.specs.Bytes.{two_at}
use Rattle.lines.specs.Lines.{line_of, Tidy}
use Rattle.lines.specs.Along.{no_place}
use Rattle.rules.specs.Values.{nobody}
use Rattle.rules.specs.Model.{places, line_count, Thread, Model, thread, line}
use Rattle.rules.specs.Consistent.{Consistent}
use Rattle.order.specs.Sound.{old_of}
use Rattle.table.specs.Cells.{cell}
use Rattle.table.specs.Rows.{thread_at, line_at, thread_past}
use Rattle.nucleus.specs.View.{view, ConsistsBy, ShowsBy}
use Rattle.nucleus.specs.declared.State.{State}
use Rattle.saving.specs.Format.{Known, newest, Holds, shortest_head, total_at, head_length, encode_as, encode}
use Rattle.saving.specs.Editions.{known_head, known_of, newest_known, newest_holds}
use Rattle.saving.specs.Written.{Written}
use Rattle.saving.specs.declared.format.Row.{Row}
use Rattle.loading.specs.Loads.{row_at, head_code, ImageAsBy, ImageBy, Image, ForeignBy}
use Rattle.loading.specs.Reading.{Parentless, NobodyFrom}
use Rattle.loading.specs.Finds.{row_is, length_is, long_enough}

-- ---- the head

module _ (s : List ℕ) where
  pub head_short : length s < shortest_head → 8 ≡ head_code s
  head_short h = rw (lt-ltb (length s) shortest_head h)

  module _ (h : shortest_head ≤ length s) where
    pub head_unknown : (row_at s).queues ≡ 0 → 9 ≡ head_code s
    head_unknown e = rw (le-ltb (length s) shortest_head h, eq-eqb (row_at s).queues 0 e)

    module _ (n : (row_at s).queues ≢ 0) where
      pub head_cut : length s < head_length (row_at s) → 8 ≡ head_code s
      head_cut k = rw (le-ltb (length s) shortest_head h, ne_eqb (row_at s).queues 0 n, lt-ltb (length s) (head_length (row_at s)) k)

      module _ (k : head_length (row_at s) ≤ length s) where
        pub head_wrong : two_at s (total_at (row_at s)) ≢ length s → 8 ≡ head_code s
        head_wrong e = rw (le-ltb (length s) shortest_head h, ne_eqb (row_at s).queues 0 n, le-ltb (length s) (head_length (row_at s)) k, ne_eqb (two_at s (total_at (row_at s))) (length s) e)

        pub head_right : two_at s (total_at (row_at s)) ≡ length s → 0 ≡ head_code s
        head_right e = rw (le-ltb (length s) shortest_head h, ne_eqb (row_at s).queues 0 n, le-ltb (length s) (head_length (row_at s)) k, eq-eqb (two_at s (total_at (row_at s))) (length s) e)

  -- a head that is in order names a known edition
  head_known : head_code s ≡ 0 → Known (row_at s)
  head_known e =
      by_test (ltb (length s) shortest_head)
      (λ t. let z : ◌≡◌ {A = ℕ} 8 0 = rw t at e in absurd (omega arith))
      (λ t. by_test (eqb (row_at s).queues 0)
      (λ u. let z : ◌≡◌ {A = ℕ} 9 0 = rw (t, u) at e in absurd (omega arith))
      (λ u. known_of (get_or s 0 0) (eqb-false (row_at s).queues 0 u)))

  pub row_known : {row : Row} → row ≡ row_at s → head_code s ≡ 0 → Known row
  row_known er h = rw er (head_known h)

-- what is saved is an image, in the newest edition
pub saved_image : {m : Model} {s : List ℕ} → Consistent m → encode m ≡ s → Image m s
saved_image {m} C e = (newest, record { known = newest_known; consistent = C; holds = newest_holds m; bytes = e })

-- an image has its head in order
pub head_image : {strict : Bool} {m : Model} {s : List ℕ} → ImageBy strict m s → head_code s ≡ 0
head_image {strict} {m} {s} (row, I) =
    let J : ImageAsBy strict (row_at s) m s = subst (λ (r : Row). ImageAsBy strict r m s) (row_is I) I in
    let a = known_head J.known in
    let b = long_enough J in
    let c = J.known.some in
    sym (head_right s (omega arith) (λ z. omega arith) b (length_is J))

-- a state that is consistent is so by the old rules too
pub old_consists : (strict : Bool) {t : State} → ConsistsBy strict t → ConsistsBy false t
old_consists strict k = record { whole = k.whole; filled = k.filled; consistent = old_of strict k.consistent }

-- ---- two lists of bytes, compared: a, and the first n of c

module _ (a c : List ℕ) (n : ℕ) (room : n ≤ length c) where
  pub equal_size : (length a ≡ n → ⊥) → take n c ≡ a → ⊥
  equal_size k e = k (sym (ap length e) ∙ length-take-le n c room)

  module _ (i : ℕ) (h : i < n) where
    pub equal_not : (get_or a i 0 ≡ get_or c i 0 → ⊥) → take n c ≡ a → ⊥
    equal_not k e = k (sym (ap (λ (t : List ℕ). get_or t i 0) e) ∙ get_or-take n c i 0 h)

    pub equal_more : n ≤ length a → take i a ≡ take i c → get_or a i 0 ≡ get_or c i 0 → take (i + 1) a ≡ take (i + 1) c
    equal_more v e z = rw (add-one, take-suc a i 0 (omega arith), take-suc c i 0 (omega arith), e, z)

  pub equal_all : length a ≡ n → take n a ≡ take n c → take n c ≡ a
  equal_all v e = sym e ∙ take_all n a (omega arith)

-- ---- what was written again

module _ {row : Row} {m : Model} {s t : List ℕ} {r : ℕ} (W : Written row m s t r) where
  pub written_take : take r t ≡ encode_as row m
  written_take = rw W.bytes (take_at (encode_as row m) (drop r s) r (sym W.size))

  pub written_room : r ≤ length t
  written_room =
      let z = W.size in
      let v = length-append (encode_as row m) (drop r s) in
      rw W.bytes (omega arith)

  pub written_tells : {b : Bool} {i : List ℕ} → Tells b (take r t ≡ i) (take r t ≡ i → ⊥) → Tells b (encode_as row m ≡ i) (encode_as row m ≡ i → ⊥)
  written_tells k = record { yes = λ e. sym written_take ∙ k.yes e; no = λ e z. k.no e (written_take ∙ z) }

-- ---- the queues that a row has not

-- the lines from k to n are empty
abbrev pub Bare : List ℕ → ℕ → ℕ → Type 0
Bare l k n = (q : ℕ) → k ≤ q → q < n → line_of places l q ≡ []

pub bare_more : {l : List ℕ} (k n : ℕ) {p : ℕ} → Tidy places line_count l → n < line_count → Bare l k n → p ≡ front (line_of places l n) → p ≡ none → Bare l k (n + 1)
bare_more {l} k n t h f e z q i j =
    by_test (eqb q n)
    (λ u. let y = eqb-true q n u in rw y (front_none (line_of places l n) (no_place t (omega arith) none n (omega arith) (omega arith)) (sym e ∙ z)))
    (λ u. let y = eqb-false q n u in f q i (omega (arith, y)))

pub bare_not : (l : List ℕ) {k i n p : ℕ} → k ≤ i → i < n → p ≡ front (line_of places l i) → (p ≡ none → ⊥) → Bare l k n → ⊥
bare_not l {i = i} g h e z f = z (e ∙ ap front (f i g h))

-- the test of one
abbrev pub is_bare : List ℕ → ℕ → Bool
is_bare l q = eqb (front (line_of places l q)) none

bare_from : {l : List ℕ} → Tidy places line_count l → (k n : ℕ) → k + n ≤ line_count → list_all (is_bare l) (range_with_len k n) ≡ true → Bare l k (k + n)
bare_from t k zero h e q i j = absurd (omega arith)
bare_from {l} t k (suc n) h e q i j =
    by_test (is_bare l k)
    (λ u. by_test (eqb q k)
    (λ v. rw (eqb-true q k v) (front_none (line_of places l k) (no_place t (omega arith) none k (omega arith) (omega arith)) (eqb-true (front (line_of places l k)) none u)))
    (λ v. bare_from t (k + 1) n (omega arith) (rw u at e) q (omega (arith, eqb-false q k v)) (omega arith)))
    (λ u. never (rw u at e) refl)

bare_back : (l : List ℕ) (k n : ℕ) → Bare l k (k + n) → list_all (is_bare l) (range_with_len k n) ≡ true
bare_back l k zero f = refl
bare_back l k (suc n) f = rw (f k (omega arith) (omega arith), bare_back l (k + 1) n (λ q i j. f q (omega arith) (omega arith)))

pub bare_tells : {l : List ℕ} → Tidy places line_count l → (k : ℕ) {b : Bool} → b ≡ list_all (is_bare l) (range_with_len k (queue_count - k)) → Tells b (Bare l k queue_count) (Bare l k queue_count → ⊥)
bare_tells {l} t k e = record {
  yes = λ z q i j. bare_from t k (queue_count - k) (omega arith) (sym e ∙ z) q i (omega arith);
  no = λ z f. never (e ∙ bare_back l k (queue_count - k) (λ q i j. f q i (omega arith))) z;
}

-- and so a model that the row holds
module _ (row : Row) (s : State) where
  same_line : (q : ℕ) → q < queue_count → line (view s) q ≡ line_of places s.arrays.lines q
  same_line q h = line_at s.desk.last.0 s.desk.running.0 s.arrays.table.blocks s.arrays.table.words s.arrays.lines q (omega arith)

  same_parents : Parentless s.arrays.table.blocks → (p : ℕ) → (thread (view s) p).parent ≡ nobody
  same_parents f p =
      by_test (ltb p places)
      (λ t. let h = ltb-true p places t in rw (thread_at s.desk.last.0 s.desk.running.0 s.arrays.table.blocks s.arrays.table.words s.arrays.lines p h) (f p h))
      (λ t. rw (thread_past s.desk.last.0 s.desk.running.0 s.arrays.table.blocks s.arrays.table.words s.arrays.lines p (ltb-false p places t)))

  same_standing : (p : ℕ) → p < places → (thread (view s) p).standing ≡ get_or s.arrays.table.blocks (cell 1 p) 0
  same_standing p h = ap (λ (t : Thread). t.standing) (thread_at s.desk.last.0 s.desk.running.0 s.arrays.table.blocks s.arrays.table.words s.arrays.lines p h)

  pub bare_holds : Bare s.arrays.lines row.queues queue_count → (row.parents ≡ false → Parentless s.arrays.table.blocks) → NobodyFrom row.places s.arrays.table.blocks → Holds row (view s)
  bare_holds f g h = record { queues = λ q i k. same_line q k ∙ f q i k; parents = λ e. same_parents (g e); places = λ p i k. same_standing p k ∙ h p i k }

  pub holds_bare : Holds row (view s) → Bare s.arrays.lines row.queues queue_count
  holds_bare f q h k = sym (same_line q k) ∙ f.queues q h k

-- ---- the candidate, read by the row of byte 0

module _ {strict : Bool} {row : Row} {s : List ℕ} {t : State} (er : row ≡ row_at s) (K : (strict : Bool) (m : Model) → ImageAsBy strict row m s → ShowsBy strict t m) where
  -- it shows whatever the bytes are an image of
  shows : {m : Model} → ImageBy strict m s → ShowsBy strict t m
  shows {m} (other, I) = K strict m (subst (λ (r : Row). ImageAsBy strict r m s) (row_is I ∙ sym er) I)

  pub foreign_not : (ConsistsBy strict t → ⊥) → ForeignBy strict s
  foreign_not n m I = n (shows I).consists

  pub foreign_full : (Bare t.arrays.lines row.queues queue_count → ⊥) → ForeignBy strict s
  foreign_full n m (other, I) =
      let e : other ≡ row = row_is I ∙ sym er in
      let z = (shows (other, I)).seen in
      n (holds_bare row t (subst (λ (x : Model). Holds row x) (sym z) (subst (λ (r : Row). Holds r m) e I.holds)))

  pub foreign_other : (encode_as row (view t) ≡ s → ⊥) → ForeignBy strict s
  foreign_other n m (other, I) =
      let e : other ≡ row = row_is I ∙ sym er in
      let z = (shows (other, I)).seen in
      n (rw (z, ← e) I.bytes)
