-- THE LONGEST TEXTS ARE REACHED: for each sheet there are the image of a state that a history leads to, and a log, of which the text is as long as any can be.
use Rattle.std.specs.Prelude.{◌≡◌, refl, List, [], ◌∷◌, ◌++◌, map, ℕ, zero, suc, ◌+◌, ◌-◌, ◌≤◌, ◌<◌, length, replicate}
use Rattle.std.proofs.Math.Path.{ap}
use Rattle.std.proofs.Common.{◌∙◌, append_assoc, eq-eqb, le-ltb, length-append}
use native.Mathlib.Omega.{arith}
use Rattle.std.proofs.Math.ListN.{length-replicate}
use Rattle.lists.specs.Lists.{none, tally, up_from}
use Rattle.rules.specs.Model.{Place, places, Model, all_places}
use Rattle.rules.specs.Rules.{first_free, outside, end_down, fresh, next, after, choice}
use Rattle.rules.specs.Consistent.{Fits, Consistent}
use Rattle.rules.specs.declared.Event.{Event}
use Rattle.rules.specs.declared.Event.TheVariants.{Create, Send, Receive, End, WaitClock}
use Rattle.order.specs.Keeps.{AllFit}
use Rattle.order.proofs.Keeps.{fresh_consistent}
use Rattle.order.proofs.Always.{always}
use Rattle.journal.specs.Format.{number, record_of, arguments_of, length_of, read_at}
use Rattle.journal.proofs.Laws.{read_behind, read_back, from_unknown}
use Rattle.journal.specs.declared.Read.TheVariants.{Record, UnknownKind}
use Rattle.saving.specs.Format.{encode}
use Rattle.saving.proofs.Longest.{longest}
use Rattle.loading.specs.Judges.{saved_image}
use Rattle.logging.specs.Log.{limit, Parsed, and_then, records_in}
use Rattle.logging.specs.Reading.Stops.{unknown}
use Rattle.logging.proofs.Reading.{records_on, records_stop}
use Rattle.logging.proofs.Cut.{fit_append}
use Rattle.depot.specs.Text.{ascii, line_bytes, text_bytes}
use Rattle.depot.specs.Decimal.{digits, decimal}
use Rattle.depot.specs.Report.{loaded, sheet_lines, state_after, last_line, text_of}
use Rattle.depot.specs.Promise.{found}
use Rattle.depot.specs.Lengths.{line_length, text_one, text_both, last_length}
use Rattle.depot.specs.Longest.{longest_of}
use Rattle.depot.specs.declared.Sheet.{Sheet}
use Rattle.depot.specs.declared.Sheet.TheVariants.{Report, Pay}
use Rattle.depot.specs.Reached.{Reaches}

-- ---- the history
-- the first number of three digits
abbrev first : ℕ
first = 100

-- threads that are created and ended at once, of these numbers
abbrev spent : List ℕ → List Event
spent [] = []
spent (n ∷ ns) = Create ∷ End (number n) ∷ spent ns

-- Each listens for the next in turn; or each sends the next the highest word.
abbrev call : Sheet → ℕ → Event
call Report n = Receive (number n)
call Pay n = Send (number n) 4294967295

-- who is called: by the first the second, and so on, and by the last the first
abbrev called : List ℕ
called = up_from (suc first) (places - 1) ++ (first ∷ [])

-- The numbers of one and two digits are spent; then a thread is created for every place, and each of them calls.
abbrev story : Sheet → List Event
story s = spent (up_from 0 first) ++ (replicate places Create ++ map (call s) called)

-- ---- that its events are events
spent_fit : (ns : List ℕ) → AllFit (spent ns)
spent_fit [] = tt
spent_fit (n ∷ ns) = (omega arith, (omega arith, spent_fit ns))

created_fit : (n : ℕ) → AllFit (replicate n Create)
created_fit zero = tt
created_fit (suc n) = (omega arith, created_fit n)

call_fits : (s : Sheet) (n : ℕ) → Fits (call s n)
call_fits Report n = omega arith
call_fits Pay n = omega arith

calls_fit : (s : Sheet) (ns : List ℕ) → AllFit (map (call s) ns)
calls_fit s [] = tt
calls_fit s (n ∷ ns) = (call_fits s n, calls_fit s ns)

story_fits : (s : Sheet) → AllFit (story s)
story_fits s =
    fit_append (spent (up_from 0 first)) (replicate places Create ++ map (call s) called) (spent_fit (up_from 0 first))
    (fit_append (replicate places Create) (map (call s) called) (created_fit places) (calls_fit s called))

-- ---- where it leads
-- (No abbrev: it would be computed wherever it stands.)
stand : Sheet → Model
stand s = after (story s) fresh

stand_consistent : (s : Sheet) → Consistent (stand s)
unfolding stand
stand_consistent s = always (story s) fresh fresh_consistent (story_fits s)

-- What is computed of it: how long its lines are, with the longest last line behind them, and who runs.
abbrev figures : Sheet → Model → ℕ × Place
figures s m = (length (text_bytes (sheet_lines s m (choice m))) + last_length, m.running)

report_figures : figures Report (stand Report) ≡ (longest_of Report, none)
unfolding stand ascii digits all_places tally first_free end_down outside
report_figures = refl

loads_figures : figures Pay (stand Pay) ≡ (longest_of Pay, none)
unfolding stand ascii digits all_places tally first_free end_down outside
loads_figures = refl

stand_figures : (s : Sheet) → figures s (stand s) ≡ (longest_of s, none)
stand_figures Report = report_figures
stand_figures Pay = loads_figures

-- ---- the log: waits for the clock, each refused since nobody runs, and then a byte that is no kind
abbrev waits : ℕ → List Event
waits n = replicate n WaitClock

abbrev waiting : ℕ → List ℕ
waiting n = replicate n 6 ++ (0 ∷ [])

wait_refused : (m : Model) → m.running ≡ none → next WaitClock m ≡ m
wait_refused m h = rw (eq-eqb m.running none h)

waits_refused : (n : ℕ) (m : Model) → m.running ≡ none → after (waits n) m ≡ m
waits_refused zero m h = refl
waits_refused (suc n) m h = ap (after (waits n)) (wait_refused m h) ∙ waits_refused n m h

-- n waits, and where and why the reading stops
abbrev read : ℕ → ℕ → Parsed
read at n = record { events = waits n; stop = at + n; code = 13 }

reads_from : (n : ℕ) (pre : List ℕ) → records_in (pre ++ waiting n) (length pre) ≡ read (length pre) n
unfolding length_of record_of arguments_of
reads_from zero pre =
    let stop : read_at (pre ++ (0 ∷ [])) (length pre) ≡ UnknownKind = read_behind pre (0 ∷ []) ∙ from_unknown (length pre) 0 [] refl in
    let z : length pre ≡ length pre + 0 = omega arith in
    records_stop (pre ++ (0 ∷ [])) (length pre) stop unknown ∙ ap (λ (i : ℕ). record { events = []; stop = i; code = 13 }) z
reads_from (suc n) pre =
    let s : List ℕ = pre ++ (6 ∷ waiting n) in
    let on : read_at s (length pre) ≡ Record WaitClock (length pre + 1) = read_back pre (waiting n) WaitClock (omega arith) in
    let l : length (pre ++ (6 ∷ [])) ≡ length pre + 1 = length-append pre (6 ∷ []) in
    let ih : records_in s (length pre + 1) ≡ read (length pre + 1) n = rw (append_assoc pre (6 ∷ []) (waiting n), l) at (reads_from n (pre ++ (6 ∷ []))) in
    let z : length pre + 1 + n ≡ length pre + suc n = omega arith in
    records_on s (length pre) WaitClock (length pre + 1) on ∙ ap (and_then WaitClock) ih
    ∙ ap (λ (i : ℕ). record { events = WaitClock ∷ waits n; stop = i; code = 13 }) z

-- ---- the text
module _ (s : Sheet) (n : ℕ) (h : n < limit) where
  short : length (waiting n) ≤ limit
  short = let a = length-append {A = ℕ} (replicate n 6) (0 ∷ []) in let b = length-replicate {A = ℕ} n 6 in omega arith

  reads : records_in (waiting n) 0 ≡ read 0 n
  reads = reads_from n []

  stays : state_after (stand s) (waiting n) ≡ stand s
  stays = rw (le-ltb limit (length (waiting n)) short, reads) (waits_refused n (stand s) (ap (λ f. f.1) (stand_figures s)))

  -- with a count of five digits the last line is as long as it can be
  module _ (five : length (decimal n) ≡ 5) where
    last_long : length (line_bytes (last_line (waiting n))) ≡ last_length
    unfolding ascii
    last_long =
        let a = line_length (ascii "log") (decimal n ∷ ascii "records" ∷ decimal n ∷ ascii "bytes" ∷ ascii "unknown" ∷ []) in
        let z : 0 + n ≡ n = omega arith in
        rw (le-ltb limit (length (waiting n)) short, reads, length-replicate {A = Event} n WaitClock, z) (omega arith)

    text_long : length (text_of s (loaded (stand s)) (waiting n)) ≡ longest_of s
    unfolding text_of
    text_long =
        let a = text_both (sheet_lines s (stand s) (choice (stand s))) (last_line (waiting n) ∷ []) in
        let b = text_one (last_line (waiting n)) in
        let c = last_long in
        let d = ap (λ f. f.0) (stand_figures s) in
        let e : length (text_bytes (sheet_lines s (stand s) (choice (stand s)) ++ (last_line (waiting n) ∷ []))) ≡ longest_of s = omega arith in
        ap (λ (m : Model). length (text_bytes (sheet_lines s m (choice m) ++ (last_line (waiting n) ∷ [])))) stays ∙ e

pub reached : (s : Sheet) → Reaches s
unfolding digits
reached s = record {
  image = encode (stand s);
  log = waiting 10000;
  finding = loaded (stand s);
  finds = found (let l = longest (stand s) (stand_consistent s) in omega arith) (stand s) (saved_image (stand_consistent s) refl) refl;
  long = text_long s 10000 (omega arith) refl;
}
