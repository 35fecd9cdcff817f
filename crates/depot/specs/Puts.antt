-- What the writer's small functions come to, on plain values: a text copied to a position, a digit, a number.
use Rattle.std.specs.Prelude.{◌≡◌, refl, List, [], ◌∷◌, ◌++◌, Bool, true, false, cond, ◌||◌, ℕ, zero, suc, ◌+◌, ◌-◌, ◌/◌, ◌%◌, ◌^◌, ◌≤◌, ◌<◌, length, take, drop, set, eqb}
use Rattle.std.proofs.Common.{sym, ap, subst, ◌∙◌, append-nil, arith, length-append, length-drop, drop_of_length-le, take_all, drop-drop, ne_eqb, eqb-true}
use Rattle.std.proofs.Math.Seq.{take-length}
use borrow.Rule.Slice.PartMut.{mid_of, put_mid}
use Rattle.lists.specs.Laid.{Wrote, laid_none, laid_length, laid_one, wrote_then}
use Rattle.lists.specs.Lists.{none, tally}
use Rattle.lists.specs.Laws.{by_test}
use Rattle.filled.specs.Filled.{width, word_of}
use Rattle.table.specs.Cells.{stands_at, Filled}
use Rattle.table.specs.Choose.{live_is}
use Rattle.rules.specs.Values.{nobody}
use Rattle.rules.specs.Model.{Place, places, Empty, Running, Ready, Sending, Awaiting, Receiving, Waiting, Thread, Model, thread, live}
use Rattle.rules.specs.declared.Choice.{Choice}
use Rattle.depot.specs.Text.{ascii, newline, Line, behind, line_bytes, text_bytes}
use Rattle.depot.specs.Report.{how_many, count_line, standing_words, thread_line, is_load, loads, loads_line, load_line, next_line, place_lines, first_line, next_lines, sheet_lines, stop_word}
use Rattle.depot.specs.Writing.{crew_of, standing_bytes, received_bytes, entry_text, place_text}
use Rattle.depot.specs.Lengths.{text_append}
use Rattle.depot.specs.declared.Sheet.{Sheet}
use Rattle.depot.specs.declared.Sheet.TheVariants.{Report, Pay}
use Rattle.depot.specs.Decimal.{digit, decimal}
use Rattle.depot.specs.Digits.{decimal_one, decimal_more}

-- A text copied to the front of the part from a position on.
pub copied : (s xs d : List ℕ) (at n : ℕ) → at + length xs ≤ length s → n ≡ length xs
    → d ≡ take (length xs) xs ++ drop (length xs) (mid_of at (length s - at) s) → Wrote s at xs (put_mid at (length s - at) s d) (at + n)
copied s xs d at n h e f =
    let k = length-drop at s in
    let m : take (length s - at) (drop at s) ≡ drop at s = take_all (length s - at) (drop at s) (omega arith) in
    let z : drop (length s - at) (drop at s) ≡ [] = drop_of_length-le (drop at s) {i = length s - at} (omega arith) in
    let g : d ≡ xs ++ drop (at + length xs) s = f ∙ rw (m, take-length xs, drop-drop (length xs) at s) refl in
    record { next = ap (λ (j : ℕ). at + j) e; bytes = rw (z, append-nil, g) refl }

-- One digit.
pub digit_put : (s : List ℕ) (at d : ℕ) → at < length s → Wrote s at (digit d ∷ []) (set s at (48 + d)) (at + 1)
digit_put s at d h = record { next = refl; bytes = laid_one s at (48 + d) h }

-- A number of one digit, ..
pub small_room : (n at l : ℕ) → n < 10 → at + length (decimal n) ≤ l → at < l
small_room n at l h r = let e = ap length (decimal_one n h) in omega arith

pub small_put : {s t : List ℕ} {at r : ℕ} (n : ℕ) → n < 10 → Wrote s at (digit n ∷ []) t r → Wrote s at (decimal n) t r
small_put {s} {t} {at} {r} n h w = let e : n % 10 ≡ n = omega arith in rw (decimal_one n h, e) w

-- .. and one of more.
module _ (n : ℕ) (h : 10 ≤ n) (k : n < 2 ^ 32) where
  split : decimal n ≡ decimal (n / 10) ++ (digit (n % 10) ∷ [])
  split = decimal_more n h (omega arith)

  longer : length (decimal n) ≡ length (decimal (n / 10)) + 1
  longer = ap length split ∙ length-append (decimal (n / 10)) (digit (n % 10) ∷ [])

  pub more_room : (at l : ℕ) → at + length (decimal n) ≤ l → at + length (decimal (n / 10)) ≤ l
  more_room at l r = let e = longer in omega arith

  module _ {s t : List ℕ} {at v : ℕ} (r : at + length (decimal n) ≤ length s) (w : Wrote s at (decimal (n / 10)) t v) where
    pub more_last : v < length t
    more_last =
        let e = longer in
        let i = w.next in
        let j = ap length w.bytes ∙ laid_length s at (decimal (n / 10)) (omega arith) in
        omega arith

    pub more_put : {u : List ℕ} {x : ℕ} → Wrote t v (digit (n % 10) ∷ []) u x → Wrote s at (decimal n) u x
    more_put y = let e = longer in rw split (wrote_then w y (omega arith))

-- ---- one behind the other: xs, and then ys
-- There is room for the first, ..
pub room_first : (s : List ℕ) (at : ℕ) (xs ys : List ℕ) → at + length (xs ++ ys) ≤ length s → at + length xs ≤ length s
room_first s at xs ys h = let k = length-append xs ys in omega arith

-- .. for the rest behind it, ..
pub room_rest : {s xs t : List ℕ} {at v : ℕ} (ys : List ℕ) → Wrote s at xs t v → at + length (xs ++ ys) ≤ length s → v + length ys ≤ length t
room_rest {s} {xs} {t} {at} {v} ys w h =
    let k = length-append xs ys in
    let i = w.next in
    let j = ap length w.bytes ∙ laid_length s at xs (room_first s at xs ys h) in
    omega arith

-- .. and then both are there.
pub both_put : {s xs t ys u : List ℕ} {at v r : ℕ} → Wrote s at xs t v → Wrote t v ys u r → at + length (xs ++ ys) ≤ length s → Wrote s at (xs ++ ys) u r
both_put {xs = xs} {ys = ys} w x h = let k = length-append xs ys in wrote_then w x (omega arith)

-- ---- where none of the other cases is
pub by_device : (x n : ℕ) → (((((Unit {0} × (x ≡ Running → ⊥)) × (x ≡ Ready → ⊥)) × (x ≡ Sending → ⊥)) × (x ≡ Awaiting → ⊥)) × (x ≡ Receiving → ⊥)) × (x ≡ Waiting → ⊥)
    → standing_bytes x n ≡ behind (ascii "device" ∷ decimal n ∷ [])
by_device x n r =
    rw (ne_eqb x Running r.0.0.0.0.0.1, ne_eqb x Ready r.0.0.0.0.1, ne_eqb x Sending r.0.0.0.1, ne_eqb x Awaiting r.0.0.1, ne_eqb x Receiving r.0.1, ne_eqb x Waiting r.1) refl

pub by_end : (c : ℕ) → (Unit {0} × (c ≡ 12 → ⊥)) × (c ≡ 13 → ⊥) → stop_word c ≡ ascii "whole"
by_end c r = rw (ne_eqb c 12 r.0.1, ne_eqb c 13 r.1) refl

-- ---- the lines, in the parts in which they are written
-- a buffer has room for bytes that are the same, and holds them
pub room_by : (s : List ℕ) (at : ℕ) {xs ys : List ℕ} → xs ≡ ys → at + length xs ≤ length s → at + length ys ≤ length s
room_by s at e h = let i = ap length e in omega arith

pub put_by : {s xs ys t : List ℕ} {at r : ℕ} → xs ≡ ys → Wrote s at xs t r → Wrote s at ys t r
put_by {s} {t = t} {at = at} {r = r} e w = subst (λ (z : List ℕ). Wrote s at z t r) e w

pub nothing_put : (s : List ℕ) (at : ℕ) → Wrote s at [] s at
nothing_put s at = record { next = omega arith; bytes = sym (laid_none s at) }

-- what comes behind a test comes behind each of its cases
by_case : (b : Bool) (xs ys : Line) {us vs : List ℕ} → behind xs ≡ us → behind ys ≡ vs → behind (cond b xs ys) ≡ cond b us vs
by_case true xs ys e f = e
by_case false xs ys e f = f

standing_behind : (t : Thread) → behind (standing_words t) ≡ standing_bytes t.standing t.partner
standing_behind t =
    by_case (eqb t.standing Running) _ _ refl
    (by_case (eqb t.standing Ready) _ _ refl
    (by_case (eqb t.standing Sending) _ _ refl
    (by_case (eqb t.standing Awaiting) _ _ refl
    (by_case (eqb t.standing Receiving) _ _ (by_case (eqb t.partner nobody) _ _ refl refl)
    (by_case (eqb t.standing Waiting) _ _ refl refl)))))

pub thread_bytes_lem : (p : Place) (t : Thread)
    → line_bytes (thread_line p t) ≡ decimal t.number ++ ((ascii " place " ++ decimal p) ++ standing_bytes t.standing t.partner)
unfolding ascii
thread_bytes_lem p t = ap (λ (z : List ℕ). decimal t.number ++ (ascii " place " ++ (decimal p ++ z))) (standing_behind t)

pub load_bytes : (t : Thread) → line_bytes (load_line t)
    ≡ (ascii "load from " ++ decimal t.number) ++ ((ascii " to " ++ decimal t.partner) ++ ((ascii " word " ++ decimal t.word) ++ received_bytes t.standing))
unfolding ascii
load_bytes t =
    ap (λ (z : List ℕ). ascii "load from " ++ (decimal t.number ++ (ascii " to " ++ (decimal t.partner ++ (ascii " word " ++ (decimal t.word ++ z))))))
    (by_case (eqb t.standing Awaiting) _ _ refl refl)

-- the line of a place, if a sheet has one
entry_text_lem : (s : Sheet) (m : Model) (p : Place) → place_text s m p ≡ entry_text s p (thread m p)
entry_text_lem Report m p = by_test (eqb (thread m p).standing Empty) (λ e. rw e refl) (λ e. rw e (append-nil (line_bytes (thread_line p (thread m p)))))
entry_text_lem Pay m p = by_test (is_load (thread m p)) (λ e. rw e (append-nil (line_bytes (load_line (thread m p))))) (λ e. rw e refl)

pub place_text_lem : (s : Sheet) (m : Model) (p : Place) {t : Thread} → thread m p ≡ t → place_text s m p ≡ entry_text s p t
place_text_lem s m p e = entry_text_lem s m p ∙ ap (entry_text s p) e

-- ---- the first lines
-- how many live, from the filled set
pub live_count : (b w : List ℕ) {x n : ℕ} → Filled x b → ((f : ℕ → Bool) → x ≡ word_of width f → n ≡ tally width f) → n ≡ live (crew_of b w)
live_count b w k c = c (stands_at b) k ∙ sym (live_is (record { filled = 0; last = record { 0 = none }; running = record { 0 = none } }) b w [])

-- the count line, in the parts in which it is written
pub count_bytes : (m : Model) {n r c : ℕ} → n ≡ live m → r ≡ how_many m Ready → c ≡ how_many m Waiting
    → line_bytes (count_line m) ≡ (ascii "threads " ++ decimal n) ++ ((ascii " ready " ++ decimal r) ++ (ascii " clock " ++ (decimal c ++ (newline ∷ []))))
unfolding ascii
count_bytes m e f g = rw (e, f, g) refl

-- sends that wait are those in an inbox and those received
tally_either : (n : ℕ) (f g : ℕ → Bool) → ((i : ℕ) → f i ≡ true → g i ≡ true → ⊥) → tally n (λ i. f i || g i) ≡ tally n f + tally n g
unfolding tally
tally_either zero f g h = refl
tally_either (suc n) f g h =
    let i = tally_either n (λ k. f (suc k)) (λ k. g (suc k)) (λ k. h (suc k)) in
    by_test (f 0)
    (λ a. by_test (g 0) (λ b. absurd (h 0 a b)) (λ b. rw (a, b) (omega arith)))
    (λ a. rw a (omega arith))

pub loads_bytes : (m : Model) {s r : ℕ} → s ≡ how_many m Sending → r ≡ how_many m Awaiting
    → line_bytes (loads_line m) ≡ ascii "loads " ++ (decimal (s + r) ++ (newline ∷ []))
unfolding ascii
loads_bytes m {s} {r} e f =
    let i = tally_either places (λ p. eqb (thread m p).standing Sending) (λ p. eqb (thread m p).standing Awaiting)
    (λ p a b. let x = eqb-true (thread m p).standing Sending a in let y = eqb-true (thread m p).standing Awaiting b in omega arith) in
    let j : loads m ≡ s + r = omega arith in
    rw j refl

-- ---- the choice, if a sheet has it
pub next_text : {s : Sheet} (x : Choice) → s ≡ Report → text_bytes (next_lines s x) ≡ line_bytes (next_line x)
next_text x e = rw e (append-nil (line_bytes (next_line x)))

pub no_next : {s : Sheet} (out : List ℕ) (at : ℕ) (x : Choice) → s ≡ Pay → Wrote out at (text_bytes (next_lines s x)) out at
no_next out at x e = rw e (nothing_put out at)

-- ---- all of a sheet but its last line
pub sheet_bytes : (s : Sheet) (m : Model) (x : Choice)
    → text_bytes (sheet_lines s m x) ≡ line_bytes (first_line s m) ++ (text_bytes (place_lines s m) ++ text_bytes (next_lines s x))
sheet_bytes s m x = ap (λ (z : List ℕ). line_bytes (first_line s m) ++ z) (text_append (place_lines s m) (next_lines s x))
