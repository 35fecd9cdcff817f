-- THE LONGEST TEXT: no report is longer than 2,114 bytes, and no text of loads longer than 3,247. Both are reached (Reached.antt).
use Rattle.std.specs.Prelude.{◌≡◌, refl, ◌≢◌, List, [], ◌∷◌, ◌++◌, map, Bool, cond, ℕ, ◌+◌, ◌*◌, ◌≤◌, eqb, ltb, length}
use Rattle.std.proofs.Common.{arith, length-append}
use borrow.Author.Tests.{eqb-true, eqb-false, eq-eqb, ltb-true, ltb-false}
use Rattle.lists.specs.Lists.{none, bit, tally, only}
use Rattle.lists.specs.Laws.{by_test, never}
use Rattle.lists.specs.Only.{only_few}
use Rattle.lists.specs.Tables.{tally_none}
use Rattle.rules.specs.Values.{nobody}
use Rattle.rules.specs.Model.{Place, Code, places, Empty, Running, Ready, Waiting, Model, thread, all_places, lives_at, live}
use Rattle.rules.specs.Rules.{idle, waited, mine, choice}
use Rattle.rules.specs.Consistent.{Consistent}
use Rattle.rules.specs.declared.Choice.{Choice}
use Rattle.order.specs.Sound.{inside}
use Rattle.depot.specs.Text.{ascii, Line, line_bytes, text_bytes}
use Rattle.depot.specs.Decimal.{digits, decimal}
use Rattle.depot.specs.Digits.{decimal_length}
use Rattle.depot.proofs.Sheets.{tally_only}
use Rattle.depot.specs.Lengths.{line_length, text_one, text_both, byte_length, partner_low, elsewhere, thread_length, thread_length_lem, load_length, load_length_lem, last_length, last_length_lem}
use Rattle.depot.specs.Report.{how_many, count_line, next_line, is_load, loads, loads_line, line_for, place_lines, first_line, next_lines, sheet_lines, refused, loaded, state_after, last_line, text_of}
use Rattle.depot.specs.declared.Sheet.{Sheet}
use Rattle.depot.specs.declared.Sheet.TheVariants.{Report, Pay}
use Rattle.depot.specs.Longest.{count_length, threads_length, next_length, longest_report, loads_length, longest_loads, longest_of}

-- the text of the loads is the longer
pub longest_of_lem : (s : Sheet) → longest_of s ≤ longest_loads
longest_of_lem Report = omega arith
longest_of_lem Pay = omega arith

-- in figures
pub in_figures : (longest_report ≡ 2114) × (longest_loads ≡ 3247)
in_figures = (refl, refl)

-- ---- the places, one by one

-- a number of each of them, added up
abbrev sum_of : (Place → ℕ) → List Place → ℕ
sum_of f [] = 0
sum_of f (p ∷ ps) = f p + sum_of f ps

-- the lines of those who are listed, with what each place adds elsewhere, are no longer than the longest lines of all
lines_length : (on : Place → Bool) (l : Place → Line) (extra most : Place → ℕ) → ((p : Place) → cond (on p) (length (line_bytes (l p))) 0 + extra p ≤ most p)
    → (ps : List Place) → length (text_bytes (map l (only on ps))) + sum_of extra ps ≤ sum_of most ps
lines_length on l extra most h [] = omega arith
lines_length on l extra most h (p ∷ ps) =
    let i = lines_length on l extra most h ps in
    let k = h p in
    by_test (on p)
    (λ t. let a = length-append (line_bytes (l p)) (text_bytes (map l (only on ps))) in let j = rw t at k in rw t (omega arith))
    (λ t. let j = rw t at k in rw t (omega arith))

-- the longest lines of all places
all_threads : sum_of thread_length all_places ≡ threads_length
unfolding all_places digits
all_threads = refl

all_loads : sum_of (λ p. load_length) all_places ≡ places * load_length
unfolding all_places
all_loads = refl

pub tally_few : (f : Place → Bool) → tally places f ≤ places
unfolding all_places
tally_few f = let a = tally_only f in let b = only_few f 0 places in omega arith

stands : Model → Code → Place → Bool
stands m x p = eqb (thread m p).standing x

only_step : (f : Place → Bool) (p : Place) (ps : List Place) → length (only f (p ∷ ps)) ≡ bit (f p) + length (only f ps)
only_step f p ps = by_test (f p) (λ t. rw t (omega arith)) (λ t. rw t (omega arith))

elsewhere_sum : (m : Model) (ps : List Place)
    → sum_of (λ p. elsewhere (thread m p)) ps ≡ length (only (stands m Ready) ps) + length (only (stands m Waiting) ps) + 2 * length (only (stands m Running) ps)
unfolding stands
elsewhere_sum m [] = omega arith
elsewhere_sum m (p ∷ ps) =
    let i = elsewhere_sum m ps in
    let a = only_step (stands m Ready) p ps in
    let b = only_step (stands m Waiting) p ps in
    let c = only_step (stands m Running) p ps in
    omega arith

elsewhere_all : (m : Model) → sum_of (λ p. elsewhere (thread m p)) all_places ≡ how_many m Ready + how_many m Waiting + 2 * how_many m Running
unfolding stands
elsewhere_all m =
    let a = tally_only (stands m Ready) in
    let b = tally_only (stands m Waiting) in
    let c = tally_only (stands m Running) in
    let d = elsewhere_sum m all_places in
    omega arith

module _ (m : Model) (C : Consistent m) where
  -- whoever lives has a number and a partner of three digits
  digits_few : (p : Place) → (thread m p).standing ≢ Empty → ((thread m p).number ≤ nobody) × ((thread m p).partner ≤ nobody)
  digits_few p k =
      let n = C.old.numbers p k in
      (omega arith, partner_low (thread m p).standing (thread m p).partner (thread m p).word (C.old.table p k))

  report_place : (p : Place) → cond (lives_at m p) (length (line_bytes (line_for Report m p))) 0 + elsewhere (thread m p) ≤ thread_length p
  report_place p =
      by_test (eqb (thread m p).standing Empty)
      (λ t. rw (eqb-true (thread m p).standing Empty t) (omega arith))
      (λ t. let d = digits_few p (eqb-false (thread m p).standing Empty t) in let a = thread_length_lem p (thread m p) d.0 d.1 in rw t (omega arith))

  loads_place : (p : Place) → cond (is_load (thread m p)) (length (line_bytes (line_for Pay m p))) 0 + 0 ≤ load_length
  loads_place p =
      by_test (eqb (thread m p).standing Empty)
      (λ t. rw (eqb-true (thread m p).standing Empty t) (omega arith))
      (λ t.
      let d = digits_few p (eqb-false (thread m p).standing Empty t) in
      let a = load_length_lem (thread m p) d.0 d.1 (C.old.words p).0 in
      by_test (is_load (thread m p)) (λ b. rw b (omega arith)) (λ b. rw b (omega arith)))

  report_places : length (text_bytes (place_lines Report m)) + (how_many m Ready + how_many m Waiting + 2 * how_many m Running) ≤ threads_length
  report_places =
      let a = lines_length (lives_at m) (line_for Report m) (λ p. elsewhere (thread m p)) thread_length report_place all_places in
      let b = elsewhere_all m in
      let c = all_threads in
      omega arith

  loads_places : length (text_bytes (place_lines Pay m)) ≤ places * load_length
  loads_places =
      let a = lines_length (λ p. is_load (thread m p)) (line_for Pay m) (λ p. 0) (λ p. load_length) loads_place all_places in
      let c = all_loads in
      omega arith

  -- whoever runs is one that stands so
  someone : m.running ≢ none → 1 ≤ how_many m Running
  someone k =
      let r = C.old.busy k in
      let l = inside m C.old.threads m.running (λ z. omega arith) in
      by_test (eqb (how_many m Running) 0)
      (λ t.
      let z = eqb-true (how_many m Running) 0 t in
      never (eq-eqb (thread m m.running).standing Running r) (tally_none places (λ p. eqb (thread m p).standing Running) z m.running l))
      (λ t. let n = eqb-false (how_many m Running) 0 t in omega arith)

  -- `next stuck`, or two bytes more where somebody runs
  next_length_lem : length (line_bytes (next_line (choice m))) ≤ next_length + 2 * how_many m Running
  unfolding ascii
  next_length_lem =
      by_test (idle m)
      (λ t. rw t (
      by_test (eqb (live m) 0)
      (λ h. rw h (omega arith))
      (λ h. rw h (by_test (waited m) (λ w. rw w (omega arith)) (λ w. rw w (omega arith))))))
      (λ t.
      let k = eqb-false m.running none t in
      let n = C.old.numbers m.running (λ z. let r = C.old.busy k in omega arith) in
      let a = line_length (ascii "next") (ascii "run" ∷ decimal (mine m) ∷ []) in
      let b = byte_length (mine m) (omega arith) in
      let c = someone k in
      rw t (omega arith))

-- ---- the first line
-- a count that is not above 64 has no more digits than one and itself
grows : (n : ℕ) → n ≤ places → length (decimal n) ≤ 1 + n
grows n h =
    by_test (ltb n 10)
    (λ t. let l = ltb-true n 10 t in let a = decimal_length 1 n (omega arith) (omega arith) in omega arith)
    (λ t. let l = ltb-false n 10 t in let a = decimal_length 2 n (omega arith) (omega arith) in omega arith)

count_length_lem : (m : Model) → length (line_bytes (count_line m)) ≤ count_length + (how_many m Ready + how_many m Waiting)
unfolding ascii
count_length_lem m =
    let a = line_length (ascii "threads") (decimal (live m) ∷ ascii "ready" ∷ decimal (how_many m Ready) ∷ ascii "clock" ∷ decimal (how_many m Waiting) ∷ []) in
    let l = tally_few (lives_at m) in
    let b = decimal_length 2 (live m) (omega arith) (omega arith) in
    let c = grows (how_many m Ready) (tally_few (λ p. eqb (thread m p).standing Ready)) in
    let d = grows (how_many m Waiting) (tally_few (λ p. eqb (thread m p).standing Waiting)) in
    omega arith

loads_length_lem : (m : Model) → length (line_bytes (loads_line m)) ≤ loads_length
unfolding ascii
loads_length_lem m =
    let a = line_length (ascii "loads") (decimal (loads m) ∷ []) in
    let l = tally_few (λ p. is_load (thread m p)) in
    let b = decimal_length 2 (loads m) (omega arith) (omega arith) in
    omega arith

-- ---- all of it
sheet_length : (s : Sheet) (m : Model) (x : Choice) (l : Line)
    → length (text_bytes (sheet_lines s m x ++ (l ∷ [])))
    ≡ length (line_bytes (first_line s m)) + length (text_bytes (place_lines s m)) + length (text_bytes (next_lines s x)) + length (line_bytes l)
sheet_length s m x l =
    let a = text_both (sheet_lines s m x) (l ∷ []) in
    let b = length-append (line_bytes (first_line s m)) (text_bytes (place_lines s m ++ next_lines s x)) in
    let c = text_both (place_lines s m) (next_lines s x) in
    let d = text_one l in
    omega arith

-- with any last line that is not longer than the longest
pub enough_lines : (s : Sheet) (m : Model) (x : Choice) (l : Line) → Consistent m → x ≡ choice m → length (line_bytes l) ≤ last_length
    → length (text_bytes (sheet_lines s m x ++ (l ∷ []))) ≤ longest_of s
enough_lines Report m x l C e h =
    let a = sheet_length Report m x l in
    let b = count_length_lem m in
    let c = report_places m C in
    let d = text_one (next_line x) in
    let f : length (line_bytes (next_line x)) ≤ next_length + 2 * how_many m Running = rw e (next_length_lem m C) in
    omega arith
enough_lines Pay m x l C e h =
    let a = sheet_length Pay m x l in
    let b = loads_length_lem m in
    let c = loads_places m C in
    omega arith

-- no text of an image and a log is longer, ..
pub enough : (s : Sheet) (m : Model) (log : List ℕ) → Consistent (state_after m log) → length (text_of s (loaded m) log) ≤ longest_of s
unfolding text_of
enough s m log C = enough_lines s (state_after m log) (choice (state_after m log)) (last_line log) C refl (last_length_lem log)

-- .. nor is the one line of an image that was refused
pub enough_refused : (s : Sheet) (c : Code) (log : List ℕ) → c ≤ nobody → length (text_of s (refused c) log) ≤ longest_of s
unfolding text_of ascii
enough_refused s c log h =
    let a = text_one (ascii "image" ∷ ascii "refused" ∷ decimal c ∷ []) in
    let b = line_length (ascii "image") (ascii "refused" ∷ decimal c ∷ []) in
    let d = byte_length c h in
    let e = refused_least s in
    omega arith
  where
    refused_least : (s : Sheet) → 20 ≤ longest_of s
    refused_least Report = omega arith
    refused_least Pay = omega arith
