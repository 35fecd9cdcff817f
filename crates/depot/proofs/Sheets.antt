-- BOTH SHEETS, READ: every word of theirs is plain, so that the lines of a text are read back, for any bytes whatever; how many there are; and what a reader of
-- lines finds among them that passes by all but the places' own.
use Rattle.std.specs.Prelude.{◌≡◌, refl, List, [], ◌∷◌, ◌++◌, map, Bool, true, false, cond, ℕ, ◌+◌, ◌<◌, length}
use Rattle.std.proofs.Common.{sym, ap, ◌∙◌, append_assoc, arith, ne_eqb, length-append}
use Rattle.std.proofs.lemmas.List.{length-map}
use Rattle.lists.specs.Lists.{tally, only}
use Rattle.lists.specs.Laws.{by_test}
use Rattle.lists.specs.Only.{only_tally}
use Rattle.lists.specs.Tables.{tally_ext}
use Rattle.rules.specs.Model.{Place, Code, places, Thread, Model, all_places}
use Rattle.rules.specs.Rules.{choice}
use Rattle.rules.specs.Consistent.{Consistent}
use Rattle.rules.specs.declared.Choice.{Choice}
use Rattle.rules.specs.declared.Choice.TheVariants.{Run, Halt, Wait, Stuck}
use Rattle.order.proofs.Always.{always}
use Rattle.journal.specs.Laws.{Bytes}
use Rattle.logging.specs.Log.{records_in}
use Rattle.logging.proofs.Exact.{exact}
use Rattle.depot.specs.Text.{ascii, Line}
use Rattle.depot.specs.Decimal.{most, decimal}
use Rattle.depot.specs.Digits.{Glyphs, digits_plain}
use Rattle.depot.specs.Reads.{lines_in, same, picked, all, is_plain, is_line, all_head, all_tail, read_back}
use Rattle.depot.specs.Report.{standing_words, next_lines, lengthy, listed, line_for, place_lines, first_line, sheet_lines, last_line, lines_of, state_after, text_of, Finding, refused, loaded}
use Rattle.depot.specs.declared.Sheet.{Sheet}
use Rattle.depot.specs.declared.Sheet.TheVariants.{Report, Pay}
use Rattle.depot.specs.Sheets.{Reader}

-- ---- every line is plain
glyphs_plain : (xs : List ℕ) → Glyphs xs → is_plain xs ≡ true
glyphs_plain [] g = refl
glyphs_plain (x ∷ xs) g = rw (ne_eqb x 10 (omega arith), ne_eqb x 32 (omega arith)) (glyphs_plain xs g.2)

decimal_plain : (n : ℕ) → is_plain (decimal n) ≡ true
decimal_plain n = glyphs_plain (decimal n) (digits_plain most n)

-- of whichever of two it is
all_cond : {A : Type 0} (f : A → Bool) (b : Bool) (xs ys : List A) → all f (cond b xs ys) ≡ cond b (all f xs) (all f ys)
all_cond f true xs ys = refl
all_cond f false xs ys = refl

either : (b : Bool) → cond b true true ≡ true
either true = refl
either false = refl

all_append : {A : Type 0} (f : A → Bool) (xs ys : List A) → all f xs ≡ true → all f ys ≡ true → all f (xs ++ ys) ≡ true
all_append f [] ys h g = g
all_append f (x ∷ xs) ys h g = rw (all_head f x xs h) (all_append f xs ys (all_tail f x xs h) g)

all_map : {A : Type 0} (f : A → Bool) (h : ℕ → A) (ps : List ℕ) → ((p : ℕ) → f (h p) ≡ true) → all f (map h ps) ≡ true
all_map f h [] e = refl
all_map f h (p ∷ ps) e = rw (e p) (all_map f h ps e)

standing_plain : (t : Thread) → all is_plain (standing_words t) ≡ true
unfolding ascii
standing_plain t = simp (all_cond, decimal_plain, either)

place_plain : (s : Sheet) (m : Model) (p : Place) → is_line (line_for s m p) ≡ true
unfolding ascii
place_plain Report m p = simp (decimal_plain, standing_plain)
place_plain Pay m p = simp (all_cond, decimal_plain, either)

first_plain : (s : Sheet) (m : Model) → is_line (first_line s m) ≡ true
unfolding ascii
first_plain Report m = simp decimal_plain
first_plain Pay m = simp decimal_plain

next_plain : (s : Sheet) (x : Choice) → all is_line (next_lines s x) ≡ true
unfolding ascii
next_plain Report (Run n) = simp decimal_plain
next_plain Report Halt = refl
next_plain Report Wait = refl
next_plain Report Stuck = refl
next_plain Pay x = refl

last_plain : (log : List ℕ) → is_line (last_line log) ≡ true
unfolding ascii
last_plain log = by_test (lengthy log) (λ t. rw t (simp decimal_plain)) (λ t. rw t (simp (decimal_plain, all_cond, either)))

lines_plain : (s : Sheet) (x : Finding) (log : List ℕ) → all is_line (lines_of s x log) ≡ true
unfolding ascii
lines_plain s (refused c) log = simp decimal_plain
lines_plain s (loaded m) log =
    let n = state_after m log in
    let e = all_map is_line (line_for s n) (only (listed s n) all_places) (place_plain s n) in
    let f = all_append is_line (place_lines s n) (next_lines s (choice n)) e (next_plain s (choice n)) in
    rw (first_plain s n) (all_append is_line (place_lines s n ++ next_lines s (choice n)) (last_line log ∷ []) f (rw (last_plain log)))

-- THE LINES OF A TEXT ARE READ BACK, whatever it tells of.
pub lines_back : (s : Sheet) (x : Finding) (log : List ℕ) → lines_in (text_of s x log) ≡ lines_of s x log
unfolding text_of
lines_back s x log = read_back (lines_of s x log) (lines_plain s x log)

-- of how many places a test holds: as many as are listed
pub tally_only : (f : Place → Bool) → tally places f ≡ length (only f all_places)
unfolding all_places
tally_only f = sym (only_tally f 0 places ∙ tally_ext places (λ i. f (0 + i)) f (λ i h. ap f (omega arith)))

-- One for each place that the sheet lists, the first, those between, and the last.
pub lines_count : (s : Sheet) (m : Model) (log : List ℕ)
    → length (lines_in (text_of s (loaded m) log)) ≡ tally places (listed s (state_after m log)) + length (next_lines s (choice (state_after m log))) + 2
lines_count s m log =
    let e = tally_only (listed s (state_after m log)) in
    rw (lines_back s (loaded m) log) (simp (length-append, length-map) (omega arith))

-- ---- what is found among them
glyphs_no : (xs : List ℕ) (x : ℕ) (w : List ℕ) → Glyphs xs → 57 < x → same xs (x ∷ w) ≡ false
glyphs_no [] x w g h = refl
glyphs_no (y ∷ ys) x w g h = rw (ne_eqb y x (omega arith))

-- A number is no word.
pub no_number_lem : (n x : ℕ) (w : List ℕ) → 57 < x → same (decimal n) (x ∷ w) ≡ false
no_number_lem n x w h = glyphs_no (decimal n) x w (digits_plain most n) h

module _ {A : Type 0} {s : Sheet} (R : Reader s A) where
  abbrev pub told : List ℕ → List A
  told text = picked R.knows R.makes (lines_in text)

  abbrev pub truth : Model → List A
  truth m = map (R.stands m) (only (listed s m) all_places)

  own_lines : (m : Model) → Consistent m → (ls : List Line) → picked R.knows R.makes ls ≡ [] → (ps : List Place)
      → picked R.knows R.makes (map (line_for s m) (only (listed s m) ps) ++ ls) ≡ map (R.stands m) (only (listed s m) ps)
  own_lines m C ls e [] = e
  own_lines m C ls e (p ∷ ps) =
      let ih = own_lines m C ls e ps in
      by_test (listed s m p) (λ t. let w = R.own m C p t in rw (t, w.0, w.1, ih)) (λ t. rw t ih)

  -- of a sheet, with any last line that is not a place's
  sheet_back : (m : Model) (x : Choice) (l : Line) → Consistent m → R.knows l ≡ false
      → picked R.knows R.makes (sheet_lines s m x ++ (l ∷ [])) ≡ truth m
  sheet_back m x l C h =
      rw (R.not_first m, append_assoc (place_lines s m) (next_lines s x) (l ∷ [])) (own_lines m C (next_lines s x ++ (l ∷ [])) (R.not_next x l h) all_places)

  -- WHAT IS READ OFF A TEXT IS WHAT STANDS IN THE STATE THAT IT TELLS OF; ..
  pub text_back : (m : Model) (log : List ℕ) → Consistent (state_after m log) → told (text_of s (loaded m) log) ≡ truth (state_after m log)
  text_back m log C = rw (lines_back s (loaded m) log) (sheet_back (state_after m log) (choice (state_after m log)) (last_line log) C (R.not_last log))

  -- .. nothing where the image was refused; ..
  pub none_back : (c : Code) (log : List ℕ) → told (text_of s (refused c) log) ≡ []
  none_back c log = rw (lines_back s (refused c) log, R.not_refused c)

  -- .. and so the same text tells the same.
  pub text_all : (m n : Model) (log log' : List ℕ) → Consistent (state_after m log) → Consistent (state_after n log')
      → text_of s (loaded m) log ≡ text_of s (loaded n) log' → truth (state_after m log) ≡ truth (state_after n log')
  text_all m n log log' C D e = sym (text_back m log C) ∙ ap told e ∙ text_back n log' D

-- The state that a text tells of is consistent, for any bytes of a log, where that of the image is.
pub stays : (m : Model) (log : List ℕ) → Consistent m → Bytes log → Consistent (state_after m log)
stays m log C b = by_test (lengthy log) (λ t. rw t C) (λ t. rw t (always (records_in log 0).events m C (exact log b).fits))
