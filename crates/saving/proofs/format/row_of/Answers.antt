-- `row_of` meets its contract: the table has the row of each edition that it has, and none behind the newest has any.
use mathlib.Core.Path.{sym, ap, ◌∙◌}
use native.Mathlib.Omega.{arith}
use Rattle.lists.specs.Lists.{tab}
use Rattle.lists.specs.Tables.{get_d_tab}
use Rattle.saving.specs.Format.{queues_of, parents_of, places_of, row_of}
use Rattle.saving.specs.Editions.{past, past_parents, past_places}
use Rattle.saving.proofs.format.row_of.Goals as goal

pub returns-in-Some : goal.returns-in-Some
unfolding queues_of parents_of places_of tab
returns-in-Some c =
    let f = c.in-Some.ensures.lookup in
    f.1 ∙ get_d_tab 5 row_of c.from.result c.in-Some.row.now f.3.0 ∙ ap row_of c.from.ensures

pub returns-in-None : goal.returns-in-None
returns-in-None c =
    let e = c.args.edition in
    let h = c.in-None.ensures.lookup.3 in
    let i = c.from.ensures in
    let a = sym (past e (omega arith)) in
    let b = sym (past_parents e (omega arith)) in
    let d = sym (past_places e (omega arith)) in
    λ i. record { edition = e; queues = a i; parents = b i; places = d i }
