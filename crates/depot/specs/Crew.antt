-- WHAT ONE READS OFF A REPORT: who lives, at which place, in which standing and with which partner. All of it is as the state has it.
-- Here stand the words; the laws of them stand in proofs/Crew.antt.
use Rattle.std.specs.Prelude.{List, [], ◌∷◌, map, Bool, cond, ℕ, get_or, drop}
use Rattle.lists.specs.Lists.{only}
use Rattle.rules.specs.Values.{nobody}
use Rattle.rules.specs.Model.{Place, Code, Number, Empty, Running, Ready, Sending, Awaiting, Receiving, Waiting, AtDevice, Thread, Model, thread, all_places, lives_at}
use Rattle.depot.specs.Text.{ascii, Line}
use Rattle.depot.specs.Decimal.{value}
use Rattle.depot.specs.Reads.{lines_in, same, picked}

-- what a line tells of a thread
pub record Seen : Type 0 where
  pub number : Number
  pub place : Place
  pub standing : Code
  pub partner : Number

-- ---- off the state
abbrev pub seen : Place → Thread → Seen
seen p t = record { number = t.number; place = p; standing = t.standing; partner = t.partner }

abbrev pub seen_at : Model → Place → Seen
seen_at m p = seen p (thread m p)

-- those who live, by rising place
abbrev pub crew : Model → List Seen
crew m = map (seen_at m) (only (lives_at m) all_places)

-- ---- off the text

-- the standing and the partner that the words behind the place tell
abbrev pub standing_in : Line → Code
standing_in ws =
    cond (same (get_or ws 0 []) (ascii "running")) Running
    (cond (same (get_or ws 0 []) (ascii "ready")) Ready
    (cond (same (get_or ws 0 []) (ascii "sending")) Sending
    (cond (same (get_or ws 0 []) (ascii "awaiting")) Awaiting
    (cond (same (get_or ws 0 []) (ascii "receiving")) Receiving
    (cond (same (get_or ws 0 []) (ascii "clock")) Waiting
    (cond (same (get_or ws 0 []) (ascii "device")) AtDevice
    Empty))))))

-- A partner, or a device's index, is the second of two words and the third of three; but `any` is nobody.
abbrev pub partner_in : Line → Number
partner_in [] = nobody
partner_in (w ∷ []) = nobody
partner_in (w ∷ v ∷ []) = cond (same v (ascii "any")) nobody (value v)
partner_in (w ∷ v ∷ u ∷ us) = value u

-- `1 place 1 ready`
abbrev pub is_thread : Line → Bool
is_thread l = same (get_or l 1 []) (ascii "place")

abbrev pub seen_in : Line → Seen
seen_in l = record { number = value (get_or l 0 []); place = value (get_or l 2 []); standing = standing_in (drop 3 l); partner = partner_in (drop 3 l) }

abbrev pub crew_in : List ℕ → List Seen
crew_in text = picked is_thread seen_in (lines_in text)
