-- A BOARD THAT RUNS: any records handed over one after the other, each with the image that the last accepted call gave and a buffer with room. The images are
-- those of the rules' states for that history, and codes, choices and numbers are the rules'. (The first image may be of any edition that is known.) From the first boot on, power failures among them: Boots.antt.
-- Here stand the words; the laws of them stand in proofs/Runs.antt.
use Rattle.std.specs.Prelude.{◌≡◌, ◌≢◌, List, [], ◌∷◌, ◌++◌, cond, ℕ, ◌≤◌, eqb, length, take}
use Rattle.rules.specs.Values.{choice_kind, choice_runs}
use Rattle.rules.specs.Model.{Model}
use Rattle.rules.specs.Rules.{Outcome, outcome, after, choice}
use Rattle.rules.specs.Consistent.{Consistent}
use Rattle.rules.specs.declared.Event.{Event}
use Rattle.journal.specs.Format.{read_at}
use Rattle.journal.specs.Laws.{Bytes}
use Rattle.journal.specs.declared.Read.{Read}
use Rattle.journal.specs.declared.Read.TheVariants.{Record, AtEnd, CutShort, UnknownKind, PastEnd}
use Rattle.saving.specs.Format.{encode}
use Rattle.saving.specs.Longest.{longest_image}
use Rattle.loading.specs.Loads.{Image}
use Rattle.board.specs.Promise.{declined, bad_code, Boards}
use Rattle.board.specs.declared.Told.{Told}

-- ---- what the rules say of any bytes that are handed over as a record
-- the event of exactly one record; else none
abbrev pub heard : Read → ℕ → List Event
heard (Record e n) size = cond (eqb n size) (e ∷ []) []
heard AtEnd size = []
heard CutShort size = []
heard UnknownKind size = []
heard PastEnd size = []

abbrev pub events_of : List ℕ → List Event
events_of rec = heard (read_at rec 0) (length rec)

-- the events of all that was handed over, also of those that the rules refuse
abbrev pub all_events : List (List ℕ) → List Event
all_events [] = []
all_events (rec ∷ recs) = events_of rec ++ all_events recs

-- code, choice and number of an outcome, and the length of the new image
abbrev pub told : Outcome → Told
told o = record { code = o.code; choice = choice_kind o.choice; next = choice_runs o.choice; number = o.number; length = cond (eqb o.code 0) (length (encode o.state)) 0 }

abbrev pub said_of : Model → Read → ℕ → Told
said_of m (Record e n) size = cond (eqb n size) (told (outcome e m)) (declined (bad_code (Record e n)) (choice m))
said_of m AtEnd size = declined (bad_code AtEnd) (choice m)
said_of m CutShort size = declined (bad_code CutShort) (choice m)
said_of m UnknownKind size = declined (bad_code UnknownKind) (choice m)
said_of m PastEnd size = declined (bad_code PastEnd) (choice m)

abbrev pub said : Model → List ℕ → Told
said m rec = said_of m (read_at rec 0) (length rec)

-- what is said to one after the other
abbrev pub all_said : Model → List (List ℕ) → List Told
all_said m [] = []
all_said m (rec ∷ recs) = said m rec ∷ all_said (after (events_of rec) m) recs

-- ---- the calls
-- From an image on, these records get these answers, and this is the last image. A refused call gives no image: the next has the one before.
pub data Calls : List ℕ → List (List ℕ) → List Told → List ℕ → Type 0 where
  over : {image : List ℕ} → Calls image [] [] image
  accepted : {image rec out after last : List ℕ} {recs : List (List ℕ)} {t : Told} {ts : List Told} → Bytes rec → longest_image ≤ length out → Boards image rec out (t, after) → t.code ≡ 0
      → Calls (take t.length after) recs ts last → Calls image (rec ∷ recs) (t ∷ ts) last
  refused : {image rec out after last : List ℕ} {recs : List (List ℕ)} {t : Told} {ts : List Told} → Bytes rec → longest_image ≤ length out → Boards image rec out (t, after) → t.code ≢ 0
      → Calls image recs ts last → Calls image (rec ∷ recs) (t ∷ ts) last

-- ---- what an image stands for
-- A board has begun with the image `first`, of any edition. Now its image stands for m: it is the first one still, or what is saved of m.
pub data StandsFor (first : List ℕ) (m : Model) (image : List ℕ) : Type 0 where
  first_still : Image m image → image ≡ first → StandsFor first m image
  saved : Consistent m → image ≡ encode m → StandsFor first m image

-- ---- all of them, from an image that stands for m
pub record CallsRan (first : List ℕ) (m : Model) (recs : List (List ℕ)) (ts : List Told) (last : List ℕ) : Type 0 where
  pub image : StandsFor first (after (all_events recs) m) last
  pub answers : ts ≡ all_said m recs
  pub consistent : Consistent (after (all_events recs) m)
