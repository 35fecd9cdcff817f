-- THE LONGEST TEXTS ARE REACHED: for each sheet there are the image of a state that a history leads to, and a log, of which the text is as long as any can be.
-- Here stand the words; the laws of them stand in proofs/Reached.antt.
use Rattle.std.specs.Prelude.{◌≡◌, List, ℕ, length}
use Rattle.depot.specs.Report.{Finding, text_of}
use Rattle.depot.specs.Promise.{Finds}
use Rattle.depot.specs.Longest.{longest_of}
use Rattle.depot.specs.declared.Sheet.{Sheet}

-- an image and a log of which the text is the longest
pub record Reaches (s : Sheet) : Type 0 where
  pub image : List ℕ
  pub log : List ℕ
  pub finding : Finding
  pub finds : Finds image finding
  pub long : length (text_of s finding log) ≡ longest_of s
