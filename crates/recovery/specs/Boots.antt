-- A BOARD THAT COMES BACK (demand 3, as C sees it), boot after boot, as its start code does it: what `rumqatiss_fresh`, `rumqatiss_board` and
-- `rumqatiss_replay` promise, and nothing else. So the C side need believe nothing but the rules. It begins with the fresh image, or with any image that the
-- library takes, as one does that the build before an update has left.
-- Here stand the words; the laws of them stand in proofs/Boots.antt.
use Rattle.std.specs.Prelude.{◌≡◌, List, [], ◌∷◌, ◌++◌, cond, ℕ, ◌≤◌, ltb, length, take}
use Rattle.rules.specs.Values.{choice_kind, choice_runs}
use Rattle.rules.specs.Model.{Model}
use Rattle.rules.specs.Rules.{after, choice as chosen}
use Rattle.rules.specs.declared.Event.{Event}
use Rattle.saving.specs.Format.{encode}
use Rattle.saving.specs.Longest.{longest_image}
use Rattle.loading.specs.Loads.{Image}
use Rattle.logging.specs.Log.{limit, log_of}
use Rattle.logging.specs.Cut.{whole_in, cut_code}
use Rattle.board.specs.Promise.{Brings}
use Rattle.recovery.specs.Runs.{all_events, Calls}
use Rattle.board.specs.declared.Told.{Told}
use Rattle.board.specs.declared.Brought.{Brought}

-- ---- the log that the C side keeps: what was handed over, where the code says that it was a record
-- the codes below this one: the event happened, or the rules refused it
abbrev pub event_codes : ℕ
event_codes = 7

abbrev pub logged_as : Told → List ℕ → List ℕ
logged_as t rec = cond (ltb t.code event_codes) rec []

abbrev pub logged : List Told → List (List ℕ) → List ℕ
logged [] recs = []
logged (t ∷ ts) [] = []
logged (t ∷ ts) (rec ∷ recs) = logged_as t rec ++ logged ts recs

-- ---- what a board lives through
-- first: its first image, of any edition that is known, and m: the state that this stands for. bs: the events before the image in its store; fs: those since. image: the present one. base, log: what stands
-- in its store.
pub data Boarded (first : List ℕ) (m : Model) : List Event → List Event → List ℕ → List ℕ → List ℕ → Type 0 where
  -- it begins: its image is kept with an empty log
  begun : Image m first → Boarded first m [] [] first first []
  -- records are handed over one after the other, and logged
  handed : {bs fs : List Event} {image last base log : List ℕ} {recs : List (List ℕ)} {ts : List Told} → Boarded first m bs fs image base log → Calls image recs ts last
      → Boarded first m bs (fs ++ all_events recs) last base (log ++ logged ts recs)
  -- the present image takes the place of the one kept, with an empty log
  renewed : {bs fs : List Event} {image base log : List ℕ} → Boarded first m bs fs image base log → Boarded first m (bs ++ fs) [] image image []
  -- The power fails, and the first k bytes of the log are left. They are replayed on the image kept, which gives the present one; what stands behind the
  -- records that came back is cut off.
  booted : {bs fs : List Event} {image base log out buffer : List ℕ} {k : ℕ} {t : Brought} → Boarded first m bs fs image base log → k ≤ length log → k ≤ limit → longest_image ≤ length out
      → Brings base (take k log) out (t, buffer) → Boarded first m bs (whole_in k fs) (take t.length buffer) base (take t.bytes log)

-- ---- what comes back
-- bs: the events before the image kept. whole: those of the log whose records are whole in the cut, of k bytes.
pub record Restored (m : Model) (bs whole : List Event) (k : ℕ) (t : Brought) (buffer : List ℕ) : Type 0 where
  pub image : take t.length buffer ≡ encode (after (bs ++ whole) m)
  pub choice : t.choice ≡ choice_kind (chosen (after (bs ++ whole) m))
  pub next : t.next ≡ choice_runs (chosen (after (bs ++ whole) m))
  pub records : t.records ≡ length whole
  pub bytes : t.bytes ≡ length (log_of whole)
  pub code : t.code ≡ cut_code k (length (log_of whole))
