-- `part_of` meets its contract, end by end. Assumes nothing.
use Rattle.image.specs.Locating.{missing_of, spotted_of}
use Rattle.image.proofs.look.part_of.Goals as goal

pub returns-in-None : goal.returns-in-None
returns-in-None c = missing_of c.load-loaded.ensures c.if-code-ne-DONE.false c.row_at-row.ensures c.in-None.ensures

pub returns-in-Some : goal.returns-in-Some
returns-in-Some c =
    spotted_of c.load-loaded.ensures c.if-code-ne-DONE.false c.row_at-row.ensures c.in-Some.ensures c.body.ensures.0 c.body.ensures.1
    c.body.ensures.2
