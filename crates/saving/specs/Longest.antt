-- How long an image is: its parts, and that none is longer than the longest. A place stands in one line at most, so all lines together are no longer than one
-- could be.
-- Here stand the words; the laws of them stand in proofs/Longest.antt.
use Rattle.std.specs.Prelude.{ℕ, ◌+◌, ◌*◌, List, map}
use Rattle.rules.specs.Model.{Place, places, Model, inbox, line}
use Rattle.saving.specs.Format.{newest, head_length, entry_length, body_length, joined}

-- The longest is 1,272 bytes (document 01 has 584, for edition 1 and 32 places): every place lives and waits somewhere.
abbrev pub longest_image : ℕ
longest_image = head_length newest + (entry_length + body_length newest + 1) * places

-- ---- the parts
-- all in the inboxes of these places
abbrev pub inboxes : Model → List Place → List Place
inboxes m ps = joined (line m) (map inbox ps)
