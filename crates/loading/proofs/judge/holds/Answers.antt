-- `holds` meets its contract: the test passes at each queue behind the row's. Assumes nothing.
use borrow.Author.Rules.{rules}
use mathlib.Core.Path.{refl}
use Rattle.lists.specs.Sizes.{queue_count}
use Rattle.std.proofs.lemmas.Iterator.{YieldsList-from_range}
use Rattle.std.proofs.lemmas.Iterator.Search.{all_from_yields_List}
use Rattle.loading.specs.Judges.{is_bare, bare_tells}
use Rattle.loading.proofs.judge.holds.Goals as goal

pub returns : goal.returns
returns c =
    let e = all_from_yields_List (is_bare c.args.l.now) _ _ c.all.result c.all.ensures.ran (YieldsList-from_range c.args.row.queues queue_count _ refl refl) (λ x b q h. search rules) in
    bare_tells c.requires c.args.row.queues e
