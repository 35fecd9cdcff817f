-- `find` meets its contract: no entry before the one found has the number. Assumes nothing.
use borrow.Author.Rules.{rules}
use borrow.Author.Tests.{tests}
use mathlib.Core.Path.{◌≡◌, ◌∙◌}
use mathlib.Core.Logic.{◌≢◌}
use Prim.Native.Nat.{◌+◌, ◌*◌}
use lib.ListN.{get_or}
use Rattle.std.proofs.lemmas.Iterator.{first_from_Range}
use Rattle.saving.specs.Format.{entry_length}
use Rattle.image.specs.Locating.{first_found}
use Rattle.image.proofs.look.find.Goals as goal

pub returns : goal.returns
returns c =
    let s = c.args.image.now in
    let h = c.head_length-head.result in
    first_found c.args.row s c.args.n.0 c.find.result c.head_length-head.ensures (c.from-live.ensures ∙ c.at.ensures)
    (first_from_Range _ _ _ c.find.result (λ i. get_or s (h + entry_length * i + 1) 0 ≡ c.args.n.0) (λ i. get_or s (h + entry_length * i + 1) 0 ≢ c.args.n.0) c.find.ensures.ran (λ x q k. search (rules, tests)) (λ x q k. search (rules, tests)))
