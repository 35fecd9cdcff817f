-- WHAT THE BOARD IS ANSWERED (document 01, "The board"; document 02, P2), for any bytes whatever: each result, and every byte of the output buffer. An entry
-- takes an image, and gives the image after; between two calls nothing is kept. That each promise settles the answer is shown in Once.antt.
use Rattle.std.specs.Prelude.{◌≡◌, List, ◌++◌, cond, ℕ, eqb, ltb, length, drop}
use Rattle.rules.specs.Values.{nobody, choice_kind, choice_runs}
use Rattle.rules.specs.Model.{Model}
use Rattle.rules.specs.Rules.{Outcome, outcome, fresh, after, choice, updated}
use Rattle.rules.specs.declared.Choice.{Choice}
use Rattle.rules.specs.declared.Choice.TheVariants.{Halt}
use Rattle.journal.specs.Format.{read_at}
use Rattle.journal.specs.declared.Read.{Read}
use Rattle.journal.specs.declared.Read.TheVariants.{Record, AtEnd, CutShort, UnknownKind, PastEnd}
use Rattle.saving.specs.Format.{encode}
use Rattle.loading.specs.Loads.{Image, Refuses, OldImage, OldRefuses}
use Rattle.logging.specs.Log.{limit, Parsed, records_in}
use Rattle.board.specs.declared.Told.{Told}
use Rattle.board.specs.declared.Brought.{Brought}
use Rattle.board.specs.declared.Carried.{Carried}

-- the image of m, in front of what the buffer held behind it
abbrev pub placed : Model → List ℕ → List ℕ
placed m out = encode m ++ drop (length (encode m)) out

-- ---- one record (the choice stands in two numbers: its kind, and the number that runs)

-- Any refusal gives number 255, length 0 and this choice.
abbrev pub declined : ℕ → Choice → Told
declined c x = record { code = c; choice = choice_kind x; next = choice_runs x; number = nobody; length = 0 }

-- Any refusal leaves the output buffer untouched. The event's own code comes before 7; under both the choice is that of the state loaded.
unfoldable pub acted : Model → Outcome → List ℕ → Told × List ℕ
acted m o out =
    cond (eqb o.code 0)
    (cond (ltb (length out) (length (encode o.state))) (declined 7 (choice m), out)
    (record { code = 0; choice = choice_kind o.choice; next = choice_runs o.choice; number = o.number; length = length (encode o.state) }, placed o.state out))
    (declined o.code (choice m), out)

-- 13: a kind that is not known. 12: not exactly one record (it ends before the bytes do, or they end within it, or there are none).
abbrev pub bad_code : Read → ℕ
bad_code (Record e n) = 12
bad_code AtEnd = 12
bad_code CutShort = 12
bad_code UnknownKind = 13
bad_code PastEnd = 12

abbrev pub taken : Model → Read → ℕ → List ℕ → Told × List ℕ
taken m (Record e n) size out = cond (eqb n size) (acted m (outcome e m) out) (declined (bad_code (Record e n)) (choice m), out)
taken m AtEnd size out = (declined (bad_code AtEnd) (choice m), out)
taken m CutShort size out = (declined (bad_code CutShort) (choice m), out)
taken m UnknownKind size out = (declined (bad_code UnknownKind) (choice m), out)
taken m PastEnd size out = (declined (bad_code PastEnd) (choice m), out)

abbrev pub step_on : Model → List ℕ → List ℕ → Told × List ℕ
step_on m rec out = taken m (read_at rec 0) (length rec) out

-- Order: load's refusals (the choice is halt, since no state was loaded), 13, 12, the event's, 7.
pub data Boards (image rec out : List ℕ) (t : Told × List ℕ) : Type 0 where
  unloaded : (c : ℕ) → Refuses image c → t ≡ (declined c Halt, out) → Boards image rec out t
  stepped : (m : Model) → Image m image → t ≡ step_on m rec out → Boards image rec out t

-- ---- a log

-- refused: nothing is counted, and the choice is this
abbrev pub unplayed : ℕ → Choice → Brought
unplayed c x = record { code = c; choice = choice_kind x; next = choice_runs x; records = 0; bytes = 0; length = 0 }

-- the state after the whole records, saved; 7 with nothing written and the choice of the state loaded
unfoldable pub kept : Model → Parsed → List ℕ → Brought × List ℕ
kept m p out =
    cond (ltb (length out) (length (encode (after p.events m)))) (unplayed 7 (choice m), out) (
      record {
        code = p.code;
        choice = choice_kind (choice (after p.events m));
        next = choice_runs (choice (after p.events m));
        records = length p.events;
        bytes = p.stop;
        length = length (encode (after p.events m));
      },
      placed (after p.events m) out,
    )

abbrev pub replay_on : Model → List ℕ → List ℕ → Brought × List ℕ
replay_on m log out = cond (ltb limit (length log)) (unplayed 11 (choice m), out) (kept m (records_in log 0) out)

-- Order: load's refusals, 11, 7; else 0, 12 or 13 as replay gives them.
pub data Brings (image log out : List ℕ) (t : Brought × List ℕ) : Type 0 where
  unread : (c : ℕ) → Refuses image c → t ≡ (unplayed c Halt, out) → Brings image log out t
  played : (m : Model) → Image m image → t ≡ replay_on m log out → Brings image log out t

-- ---- the fresh image

-- code, length and the buffer
abbrev pub fresh_on : List ℕ → ℕ × ℕ × List ℕ
fresh_on out = cond (ltb (length out) (length (encode fresh))) (7, 0, out) (0, length (encode fresh), placed fresh out)

-- ---- the update

-- refused: nothing is written, and the choice is this
abbrev pub uncarried : ℕ → Choice → Carried
uncarried c x = record { code = c; choice = choice_kind x; next = choice_runs x; length = 0 }

-- m, the state after the update, saved; 7 with nothing written and the choice of m
unfoldable pub carried_on : Model → List ℕ → Carried × List ℕ
carried_on m out =
    cond (ltb (length out) (length (encode m))) (uncarried 7 (choice m), out)
    (record { code = 0; choice = choice_kind (choice m); next = choice_runs (choice m); length = length (encode m) }, placed m out)

-- Order: load's refusals, but for P2's clause, which the old rules do not know (the choice is halt, since no state was loaded), 7.
pub data Carries (image out : List ℕ) (t : Carried × List ℕ) : Type 0 where
  untaken : (c : ℕ) → OldRefuses image c → t ≡ (uncarried c Halt, out) → Carries image out t
  took_over : (m : Model) → OldImage m image → t ≡ carried_on (updated m) out → Carries image out t
