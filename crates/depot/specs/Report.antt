-- THE TEXTS (document 02, P7, in its order and words): what is written of an image and its log, line by line. No proofs here.
use Rattle.std.specs.Prelude.{List, [], ◌∷◌, ◌++◌, map, Bool, cond, ◌||◌, ℕ, eqb, ltb, length}
use Rattle.lists.specs.Lists.{tally, only}
use Rattle.rules.specs.Values.{nobody}
use Rattle.rules.specs.Model.{Place, Code, places, Running, Ready, Sending, Awaiting, Receiving, Waiting, Thread, Model, thread, all_places, lives_at, live}
use Rattle.rules.specs.Rules.{after, choice}
use Rattle.rules.specs.declared.Choice.{Choice}
use Rattle.rules.specs.declared.Choice.TheVariants.{Run, Halt, Wait, Stuck}
use Rattle.logging.specs.Log.{limit, Parsed, records_in}
use Rattle.depot.specs.Text.{ascii, Line, text_bytes}
use Rattle.depot.specs.Decimal.{decimal}
use Rattle.depot.specs.declared.Sheet.{Sheet}
use Rattle.depot.specs.declared.Sheet.TheVariants.{Report, Pay}

-- ---- the report

-- how many threads are in a standing
abbrev pub how_many : Model → Code → ℕ
how_many m x = tally places (λ p. eqb (thread m p).standing x)

-- `threads 2 ready 1 clock 0`
abbrev pub count_line : Model → Line
count_line m =
    ascii "threads" ∷ decimal (live m)
    ∷ ascii "ready" ∷ decimal (how_many m Ready)
    ∷ ascii "clock" ∷ decimal (how_many m Waiting) ∷ []

-- Standings are `running`, `ready`, `sending to N`, `awaiting N`, `receiving from N`, `receiving any`, `clock`, `device I`.
abbrev pub standing_words : Thread → Line
standing_words t =
    cond (eqb t.standing Running) (ascii "running" ∷ [])
    (cond (eqb t.standing Ready) (ascii "ready" ∷ [])
    (cond (eqb t.standing Sending) (ascii "sending" ∷ ascii "to" ∷ decimal t.partner ∷ [])
    (cond (eqb t.standing Awaiting) (ascii "awaiting" ∷ decimal t.partner ∷ [])
    (cond (eqb t.standing Receiving)
    (cond (eqb t.partner nobody) (ascii "receiving" ∷ ascii "any" ∷ []) (ascii "receiving" ∷ ascii "from" ∷ decimal t.partner ∷ []))
    (cond (eqb t.standing Waiting) (ascii "clock" ∷ [])
    (ascii "device" ∷ decimal t.partner ∷ []))))))

-- `1 place 1 ready`
abbrev pub thread_line : Place → Thread → Line
thread_line p t = decimal t.number ∷ ascii "place" ∷ decimal p ∷ standing_words t

-- The next line is `next run N`, `next halt`, `next wait` or `next stuck`.
abbrev pub next_line : Choice → Line
next_line (Run n) = ascii "next" ∷ ascii "run" ∷ decimal n.0 ∷ []
next_line Halt = ascii "next" ∷ ascii "halt" ∷ []
next_line Wait = ascii "next" ∷ ascii "wait" ∷ []
next_line Stuck = ascii "next" ∷ ascii "stuck" ∷ []

-- ---- the loads that wait: every send that is not answered yet

abbrev pub is_load : Thread → Bool
is_load t = eqb t.standing Sending || eqb t.standing Awaiting

abbrev pub loads : Model → ℕ
loads m = tally places (λ p. is_load (thread m p))

-- `loads 2`
abbrev pub loads_line : Model → Line
loads_line m = ascii "loads" ∷ decimal (loads m) ∷ []

-- `load from 1 to 0 word 7 received`, or `not received`
abbrev pub load_line : Thread → Line
load_line t =
    ascii "load" ∷ ascii "from" ∷ decimal t.number ∷ ascii "to" ∷ decimal t.partner ∷ ascii "word" ∷ decimal t.word
    ∷ cond (eqb t.standing Awaiting) (ascii "received" ∷ []) (ascii "not" ∷ ascii "received" ∷ [])

-- ---- the two sheets

-- who has a line of his own in a sheet, ..
abbrev pub listed : Sheet → Model → Place → Bool
listed Report m p = lives_at m p
listed Pay m p = is_load (thread m p)

-- .. and that line
abbrev pub line_for : Sheet → Model → Place → Line
line_for Report m p = thread_line p (thread m p)
line_for Pay m p = load_line (thread m p)

-- Threads go by rising place.
abbrev pub place_lines : Sheet → Model → List Line
place_lines s m = map (line_for s m) (only (listed s m) all_places)

abbrev pub first_line : Sheet → Model → Line
first_line Report m = count_line m
first_line Pay m = loads_line m

abbrev pub next_lines : Sheet → Choice → List Line
next_lines Report x = next_line x ∷ []
next_lines Pay x = []

-- all of a sheet but its last line, for the state m and the choice x
abbrev pub sheet_lines : Sheet → Model → Choice → List Line
sheet_lines s m x = first_line s m ∷ place_lines s m ++ next_lines s x

-- ---- the last line

-- The last word is `whole`, `torn` or `unknown`.
abbrev pub stop_word : Code → List ℕ
stop_word c = cond (eqb c 12) (ascii "torn") (cond (eqb c 13) (ascii "unknown") (ascii "whole"))

-- `log 0 records 0 bytes whole`
abbrev pub log_line : Parsed → Line
log_line p = ascii "log" ∷ decimal (length p.events) ∷ ascii "records" ∷ decimal p.stop ∷ ascii "bytes" ∷ stop_word p.code ∷ []

-- `log refused 11`
abbrev pub log_refused : Line
log_refused = ascii "log" ∷ ascii "refused" ∷ decimal 11 ∷ []

-- ---- what is found

-- the code with which the image is refused, or the state whose image it is
pub data Finding : Type 0 where
  refused : Code → Finding
  loaded : Model → Finding

-- A refused image gives the one line `image refused C`.
abbrev pub image_refused : Code → Line
image_refused c = ascii "image" ∷ ascii "refused" ∷ decimal c ∷ []

-- A log over 32,768 bytes gives `log refused 11` as last line, with nothing replayed.
abbrev pub lengthy : List ℕ → Bool
lengthy log = ltb limit (length log)

-- the state of which the text tells
abbrev pub state_after : Model → List ℕ → Model
state_after m log = cond (lengthy log) m (after (records_in log 0).events m)

abbrev pub last_line : List ℕ → Line
last_line log = cond (lengthy log) log_refused (log_line (records_in log 0))

abbrev pub lines_of : Sheet → Finding → List ℕ → List Line
lines_of s (refused c) log = image_refused c ∷ []
lines_of s (loaded m) log = sheet_lines s (state_after m log) (choice (state_after m log)) ++ (last_line log ∷ [])

-- the text: bytes. (No abbrev: it would be written out wherever it stands.)
unfoldable pub text_of : Sheet → Finding → List ℕ → List ℕ
text_of s x log = text_bytes (lines_of s x log)

abbrev pub report_of : Finding → List ℕ → List ℕ
report_of x log = text_of Report x log

abbrev pub loads_of : Finding → List ℕ → List ℕ
loads_of x log = text_of Pay x log
