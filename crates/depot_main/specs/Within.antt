-- The text that the library tells lies within the buffer that it was lent.
use Rattle.std.specs.Prelude.{List, ℕ, ◌≤◌, ltb, length}
use Rattle.std.proofs.Common.{arith, length-append}
use Rattle.lists.specs.Laws.{by_test}
use Rattle.depot.specs.Report.{text_of}
use Rattle.depot.specs.Promise.{handed, Tells}
use Rattle.depot.specs.declared.Sheet.{Sheet}
use Rattle.depot.specs.declared.Told.{Told}

handed_within : (t out : List ℕ) → (handed t out).0.length ≤ length (handed t out).1
handed_within t out = by_test (ltb (length out) (length t)) (λ e. rw e (omega arith)) (λ e. rw (e, length-append) (omega arith))

pub told_within : {s : Sheet} {image log out : List ℕ} {t : Told × List ℕ} → Tells s image log out t → t.0.length ≤ length t.1
told_within {s} {log = log} {out = out} T = rw T.told (handed_within (text_of s T.finding log) out)
