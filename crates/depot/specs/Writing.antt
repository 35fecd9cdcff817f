-- The texts as the writer goes through them: the threads of the arrays, the end of a line that has several, and what one place adds.
use Rattle.std.specs.Prelude.{List, [], ◌∷◌, map, cond, ℕ, ◌≤◌, eqb}
use Rattle.lists.specs.Lists.{none, only}
use Rattle.lists.specs.Laid.{Wrote}
use Rattle.rules.specs.Values.{nobody}
use Rattle.rules.specs.Model.{Place, Number, Code, Empty, Running, Ready, Sending, Awaiting, Receiving, Waiting, Thread, Model}
use Rattle.table.specs.Cells.{model_of}
use Rattle.depot.specs.Text.{ascii, behind, line_bytes, text_bytes}
use Rattle.depot.specs.Decimal.{decimal}
use Rattle.depot.specs.Report.{thread_line, load_line, is_load, listed, line_for, stop_word, Finding, text_of}
use Rattle.depot.specs.Longest.{longest_of}
use Rattle.depot.specs.Promise.{Finds}
use Rattle.depot.specs.declared.Sheet.{Sheet}
use Rattle.depot.specs.declared.Sheet.TheVariants.{Report, Pay}

-- The threads of the arrays. A text asks for nothing else of a model, and so it has no lines here.
abbrev pub crew_of : List ℕ → List ℕ → Model
crew_of b w = model_of none none b w []

-- the end of a receiver's line, by its partner
abbrev pub source_bytes : Number → List ℕ
source_bytes n = cond (eqb n nobody) (behind (ascii "receiving" ∷ ascii "any" ∷ [])) (behind (ascii "receiving" ∷ ascii "from" ∷ decimal n ∷ []))

-- the end of a thread's line, by its standing and its partner
abbrev pub standing_bytes : Code → Number → List ℕ
standing_bytes x n =
    cond (eqb x Running) (behind (ascii "running" ∷ []))
    (cond (eqb x Ready) (behind (ascii "ready" ∷ []))
    (cond (eqb x Sending) (behind (ascii "sending" ∷ ascii "to" ∷ decimal n ∷ []))
    (cond (eqb x Awaiting) (behind (ascii "awaiting" ∷ decimal n ∷ []))
    (cond (eqb x Receiving) (source_bytes n)
    (cond (eqb x Waiting) (behind (ascii "clock" ∷ []))
    (behind (ascii "device" ∷ decimal n ∷ [])))))))

-- the end of a load's line, by the sender's standing
abbrev pub received_bytes : Code → List ℕ
received_bytes x = cond (eqb x Awaiting) (behind (ascii "received" ∷ [])) (behind (ascii "not" ∷ ascii "received" ∷ []))

-- the line of a thread at a place, if it lives, and that of its load, if it has one that waits
abbrev pub live_text : Place → Thread → List ℕ
live_text p t = cond (eqb t.standing Empty) [] (line_bytes (thread_line p t))

abbrev pub owed_text : Thread → List ℕ
owed_text t = cond (is_load t) (line_bytes (load_line t)) []

-- the one or the other, by the sheet
abbrev pub entry_text : Sheet → Place → Thread → List ℕ
entry_text Report p t = live_text p t
entry_text Pay p t = owed_text t

-- the line of the place p, if a sheet has one
abbrev pub place_text : Sheet → Model → Place → List ℕ
place_text s m p = text_bytes (map (line_for s m) (only (listed s m) (p ∷ [])))

-- the end of the log's line, by why it stopped, and all of it
abbrev pub stop_bytes : Code → List ℕ
stop_bytes c = behind (ascii "bytes" ∷ stop_word c ∷ [])

abbrev pub log_bytes : ℕ → ℕ → Code → List ℕ
log_bytes n k c = line_bytes (ascii "log" ∷ decimal n ∷ ascii "records" ∷ decimal k ∷ ascii "bytes" ∷ stop_word c ∷ [])

-- the text of an image and its log is at the front of a buffer, and ends at r
pub record Writes (s : Sheet) (image log before now : List ℕ) (r : ℕ) : Type 0 where
  pub finding : Finding
  pub finds : Finds image finding
  pub wrote : Wrote before 0 (text_of s finding log) now r
  pub short : r ≤ longest_of s
