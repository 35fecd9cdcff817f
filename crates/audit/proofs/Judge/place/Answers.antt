-- `place` meets its contract: six tests, of the thread that stands there.
use mathlib.Core.Path.{refl, sym, ◌∙◌}
use mathlib.Core.List.{[]}
use Rattle.table.specs.Cells.{model_of, as_thread}
use Rattle.table.specs.Rows.{thread_at}
use Rattle.audit.specs.Loops.{seat_test_lem}
use Rattle.audit.proofs.Judge.place.Goals as goal

pub returns : goal.returns
returns c =
    let t = c.read-held in
    seat_test_lem c.args.self.strict (model_of 0 c.args.self.running.0 c.args.t.now.blocks c.args.t.now.words []) c.args.self.at.now c.args.self.who.now c.args.p.0 _ _
    (as_thread t.result) _ _ _ _ _
    (t.ensures ∙ sym (thread_at 0 c.args.self.running.0 c.args.t.now.blocks c.args.t.now.words [] c.args.p.0 c.requires))
    refl
    c.fits.ensures c.runs_alone.ensures c.home.ensures (c.unheard.ensures c.args.t.now.words) c.names_live.ensures
    c.parented.ensures
