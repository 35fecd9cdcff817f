-- `every` meets its contract: the test passes at each place, or fails at one.
use borrow.Author.Rules.{rules}
use mathlib.Core.Path.{refl}
use mathlib.Core.List.{[]}
use Rattle.std.proofs.lemmas.Iterator.{YieldsList-from_range}
use Rattle.std.proofs.lemmas.Iterator.Search.{all_from_yields_List}
use Rattle.rules.specs.Model.{places}
use Rattle.table.specs.Cells.{model_of}
use Rattle.audit.specs.Tests.{place_test}
use Rattle.audit.specs.Loops.{every_tells}
use Rattle.audit.proofs.Judge.every.Goals as goal

pub returns : goal.returns
returns c =
    let j = c.args.self in
    let t = c.args.t.now in
    let f = place_test j.strict (model_of 0 j.running.0 t.blocks t.words []) j.at.now j.who.now in
    every_tells f (all_from_yields_List f _ _ c.all.result c.all.ensures.ran (YieldsList-from_range 0 places _ refl refl) (λ x b q h. search rules))
