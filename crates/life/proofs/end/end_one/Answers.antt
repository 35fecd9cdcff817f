-- `end_one` meets its contract: the thread ends by the whole rule, and its place leaves the set of filled ones.
use Rattle.life.specs.Family.{ends_at, emptied_one}
use Rattle.life.proofs.end.end_one.Goals as goal

pub end_at-e-requires : goal.end_at-e-requires
end_at-e-requires c =
    ends_at c.requires.0 c.requires.1 _ c.requires.2 c.number_of-n.ensures

pub returns : goal.returns
returns c =
    emptied_one c.requires.0 c.requires.1 _ c.requires.2 c.number_of-n.ensures c.end_at-e.ensures c.less.ensures
