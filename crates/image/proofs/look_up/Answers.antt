-- `look_up` meets its contract: what was located lies in the image, and is what is to be seen. Assumes nothing.
use borrow.Author.Rules.{rules}
use mathlib.Core.Path.{◌≡◌, refl}
use Prim.Native.Nat.{◌+◌, ◌-◌}
use native.Mathlib.Omega.{arith}
use Rattle.image.specs.Locating.{locate_within}
use Rattle.image.specs.Looks.{locate_sees, part_long}
use Rattle.image.proofs.look_up.Goals as goal

pub overflow_add-to : goal.overflow_add-to
overflow_add-to c = let h = locate_within c.part_of-part.ensures in search rules

pub slice_bounds-result-end : goal.slice_bounds-result-end
slice_bounds-result-end c = let h = locate_within c.part_of-part.ensures in search rules

pub returns : goal.returns
returns c =
    let r = c.part_of-part.result in
    let e : r.offset + r.length - r.offset ≡ r.length = omega arith in
    let L = c.part_of-part.ensures in
    let z = part_long L in
    rw e (locate_sees L, record { code = r.code; offset = r.offset; located = rw z L; block = refl; from = omega arith })
