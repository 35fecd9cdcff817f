-- `same` meets its contract: the candidate is written again, and compared. Assumes nothing.
use mathlib.Core.Path.{sym}
use Rattle.std.proofs.lemmas.Slice.Eq.{slice_eq-Decides}
use Rattle.std.proofs.lemmas.Bool.Decides.{Decides-eqb, not_from_Decides}
use Rattle.loading.specs.Judges.{written_tells}
use Rattle.loading.proofs.judge.same.Goals as goal

pub returns : goal.returns
returns c =
    let d = slice_eq-Decides Decides-eqb _ _ _ c.eq.ensures in
    written_tells c.write-n.ensures (record { yes = λ e. sym (d.0 e); no = λ e z. not_from_Decides _ d e (sym z) })
