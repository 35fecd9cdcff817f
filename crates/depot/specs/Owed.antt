-- WHAT ONE READS OFF THE LOADS SHEET: every send that is not answered yet, with its word, and whether it was received. That is as the state has it.
-- Here stand the words; the laws of them stand in proofs/Owed.antt.
use Rattle.std.specs.Prelude.{List, [], map, Bool, ℕ, eqb, get_or}
use Rattle.lists.specs.Lists.{only}
use Rattle.rules.specs.Model.{Place, Number, Word, Awaiting, Model, thread, all_places}
use Rattle.depot.specs.Text.{ascii, Line}
use Rattle.depot.specs.Decimal.{value}
use Rattle.depot.specs.Reads.{lines_in, same, picked}
use Rattle.depot.specs.Report.{is_load}

-- what a line tells of a load
pub record Load : Type 0 where
  pub from : Number
  pub to : Number
  pub word : Word
  pub received : Bool

-- ---- off the state

-- A sender's word is received when he awaits the reply.
abbrev pub load_at : Model → Place → Load
load_at m p = record { from = (thread m p).number; to = (thread m p).partner; word = (thread m p).word; received = eqb (thread m p).standing Awaiting }

-- those who send or await a reply, by rising place
abbrev pub owed : Model → List Load
owed m = map (load_at m) (only (λ p. is_load (thread m p)) all_places)

-- ---- off the text: `load from 1 to 0 word 7 received`, or `not received`
abbrev pub tells_load : Line → Bool
tells_load l = same (get_or l 0 []) (ascii "load")

abbrev pub load_in : Line → Load
load_in l = record { from = value (get_or l 2 []); to = value (get_or l 4 []); word = value (get_or l 6 []); received = same (get_or l 7 []) (ascii "received") }

abbrev pub loads_in : List ℕ → List Load
loads_in text = picked tells_load load_in (lines_in text)
