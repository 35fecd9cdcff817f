-- An update in the field (document 02, P2): the image that comes of it boots, and every send that was unanswered is so still, in its place with its word.
-- Here stand the words; the laws of them stand in proofs/Updated.antt.
use Rattle.std.specs.Prelude.{List, [], ℕ}
use Rattle.rules.specs.Model.{Model}
use Rattle.rules.specs.Rules.{updated}
use Rattle.loading.specs.Loads.{OldImage}
use Rattle.updating.specs.Updates.{NothingLost}
use Rattle.recovery.specs.Boots.{Boarded}

-- m: what the old image stood for. kept: the image that came of it, which is that of m updated.
pub record CarriedOver (image kept : List ℕ) : Type 0 where
  pub m : Model
  pub image_of : OldImage m image
  pub loads : NothingLost m (updated m)
  pub boots : Boarded kept (updated m) [] [] kept kept []
