-- "LOADS THAT WERE COUNTED" (document 01): every starred case, of the rules, of the image and of the log, and those of document 02's P1 to P3, P5 and P6, in
-- one table that one computed fact covers.
use Rattle.std.specs.Prelude.{ℕ, ◌≡◌, refl, List, ◌++◌, map}
use Rattle.lists.specs.Lists.{tally}
use Rattle.rules.specs.Model.{all_places}
use Rattle.rules.specs.Devices.{all_devices}
use Rattle.rules.specs.Rules.{first_free, outside, end_down, updated}
use Rattle.rules.specs.Counted.{Seen, Case, found, cases}
use Rattle.journal.specs.Format.{length_of, event_of, read_from, read_at}
use Rattle.saving.specs.Format.{queues_of, parents_of, row_of, queues_in, encode_as, encode}
use Rattle.loading.specs.Counted.{CountedImage, state, images}
use Rattle.updating.specs.Counted.{CountedUpdate, updates}
use Rattle.logging.specs.Log.{parsed}
use Rattle.logging.specs.Counted.{ReplayRow, CountedReplay, logs, found as replayed}

-- a case: events that come, a history whose image is looked at, a log that is replayed, or an image that is updated
pub data Counted : Type 0 where
  events : Case → Counted
  image : CountedImage → Counted
  log : CountedReplay → Counted
  update : CountedUpdate → Counted

-- what is seen of it: for a history its image in the edition of the case, and as it is saved now; for an update its image before, and as it is saved after
pub data Sight : Type 0 where
  seen : Seen → Sight
  bytes : List ℕ → List ℕ → Sight
  row : ReplayRow → Sight

-- what the rules give
abbrev pub computed : Counted → Sight
computed (events c) = seen (found c)
computed (image c) = bytes (encode_as (row_of c.edition) (state c)) (encode (state c))
computed (log c) = row (replayed c)
computed (update c) = bytes (encode_as (row_of c.edition) c.old) (encode (updated c.old))

-- what the document says
abbrev pub stated : Counted → Sight
stated (events c) = seen c.seen
stated (image c) = bytes c.image c.saved
stated (log c) = row c.row
stated (update c) = bytes c.image c.saved

unfoldable pub table : List Counted
table = map events cases ++ (map image images ++ (map log logs ++ map update updates))

pub counted : map computed table ≡ map stated table
unfolding table cases images logs updates end_down encode_as queues_of parents_of queues_in all_places all_devices outside tally first_free parsed length_of event_of read_from read_at
counted = refl
