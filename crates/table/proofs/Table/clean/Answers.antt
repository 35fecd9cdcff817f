-- `clean` meets its contract: four stores, one after the other.
use Rattle.table.specs.Clean.{cleaned}
use Rattle.table.proofs.Table.clean.Goals as goal

pub returns : goal.returns
returns c =
    cleaned c.requires.0 c.requires.1 c.name.ensures c.stand.ensures c.tell.ensures c.raise.ensures
