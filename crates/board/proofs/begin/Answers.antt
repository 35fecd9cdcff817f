-- `begin` meets its contract: 7, or the fresh image.
use Rattle.board.specs.Answers.{save_short, fresh_saved}
use Rattle.board.proofs.begin.Goals as goal

pub returns : goal.returns
returns c =
    (fresh_saved c.fresh.ensures c.keep.ensures, save_short c.fresh.ensures c.keep.ensures)
