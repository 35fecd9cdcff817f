-- DEMAND 3, as a terminal lives it, over what the public operations promise and nothing else: events come, the state is saved, later events are recorded; the
-- power fails at any byte of the log; the image is loaded and what is left of the log replayed; and so on, in any order, boot after boot.
-- Here stand the words; the laws of them stand in proofs/History.antt.
use Rattle.std.specs.Prelude.{◌≡◌, List, [], ◌++◌, ℕ, ◌≤◌, length, take}
use Rattle.rules.specs.Rules.{fresh, choice, after}
use Rattle.rules.specs.declared.Event.{Event}
use Rattle.order.specs.Keeps.{AllFit}
use Rattle.nucleus.specs.View.{Shows}
use Rattle.nucleus.specs.declared.State.{State}
use Rattle.nucleus.specs.declared.Reply.{Reply}
use Rattle.saving.specs.Format.{encode}
use Rattle.saving.specs.Save.{Saves}
use Rattle.loading.specs.Loads.{Loads}
use Rattle.loading.specs.declared.Loaded.{Loaded}
use Rattle.logging.specs.Log.{log_of}
use Rattle.logging.specs.Promise.{Replays}
use Rattle.logging.specs.Cut.{whole_in, cut_code}
use Rattle.logging.specs.History.{Session, LogHolds}
use Rattle.logging.specs.declared.Replayed.{Replayed}
use Rattle.recovery.specs.Chain.{Chain}

-- ---- what a terminal lives through
-- What it has kept for its next boot: nothing yet; or an image, and a log that reaches to `end` in its buffer. bs: the events before the image was saved; fs:
-- those recorded since.
pub data Store : Type 0 where
  empty : Store
  stored : (bs fs : List Event) (image log : List ℕ) (end : ℕ) → Store

-- The events that have happened, the state then, and what is kept.
pub data Lived : List Event → State → Store → Type 0 where
  -- it is fresh
  born : {s : State} → Shows s fresh → Lived [] s empty
  -- events come that nobody records
  went : {s t : State} {es fs : List Event} {rs : List Reply} {k : Store} → Lived es s k → Chain s fs rs t → Lived (es ++ fs) t k
  -- It is saved, and the log is empty from then on, whatever stands in its buffer. (Both at once: until the new image is kept, the old one and its log are.)
  saved : {s : State} {es : List Event} {k : Store} {before buffer log : List ℕ} {n : ℕ} → Lived es s k → Saves s before 0 n buffer → Lived es s (stored es [] (take n buffer) log 0)
  -- events are recorded where the log ends, with nothing unrecorded before them
  recorded : {s t : State} {es bs fs gs : List Event} {image log log' : List ℕ} {q q' : ℕ} → Lived es s (stored bs fs image log q) → es ≡ bs ++ fs → Session s log q gs t log' q'
      → Lived (es ++ gs) t (stored bs (fs ++ gs) image log' q')
  -- The power fails, and the first k bytes of the log are left. The image is loaded, and they are replayed. The log ends behind the records that came back, in
  -- any buffer that has their bytes.
  back : {s : State} {es bs fs : List Event} {image log buffer : List ℕ} {q k : ℕ} {l : Loaded} {r : Replayed} → Lived es s (stored bs fs image log q) → k ≤ q → Loads image l
      → Replays l.state (take k log) r → take r.bytes buffer ≡ take r.bytes log → r.bytes ≤ length buffer → Lived (bs ++ whole_in k fs) r.state (stored bs (whole_in k fs) image buffer r.bytes)

-- ---- what comes back
-- bs: the events before the save. whole: those recorded after it whose records are whole in the cut, of k bytes.
pub record Back (bs whole : List Event) (k : ℕ) (l : Loaded) (r : Replayed) : Type 0 where
  pub loaded : l.code ≡ 0
  pub state : Shows r.state (after (bs ++ whole) fresh)
  pub choice : r.choice ≡ choice (after (bs ++ whole) fresh)
  pub records : r.records ≡ length whole
  pub bytes : r.bytes ≡ length (log_of whole)
  pub code : r.code ≡ cut_code k (length (log_of whole))

-- What is kept is good for that: the image is that of the events before it, the log holds those since, and what has happened is these, and then what nobody
-- recorded.
pub record Good (es bs fs : List Event) (image log : List ℕ) (q : ℕ) : Type 0 where
  pub is_image : encode (after bs fresh) ≡ image
  pub fits : AllFit bs
  pub holds : LogHolds log q fs
  pub unrecorded : List Event
  pub happened : es ≡ (bs ++ fs) ++ unrecorded

-- ---- so at any time it is the rules' state for what has happened
pub record Alive (es : List Event) (s : State) : Type 0 where
  pub state : Shows s (after es fresh)
  pub fits : AllFit es

-- ---- half a record
-- Behind whole records, half a record never acts: state, choice and counts are those of the log without it, and the code is 12 instead of 0.
pub record Unmoved (r u : Replayed) : Type 0 where
  pub state : r.state ≡ u.state
  pub choice : r.choice ≡ u.choice
  pub records : r.records ≡ u.records
  pub bytes : r.bytes ≡ u.bytes
  pub half : r.code ≡ 12
  pub whole : u.code ≡ 0
