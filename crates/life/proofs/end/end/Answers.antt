-- `end` meets its contract: refused, or the thread ends with all that it started.
use mathlib.Core.Path.{refl, sym, ◌∙◌}
use Rattle.rules.specs.Known.{place_none, place_some}
use Rattle.life.specs.Family.{end_2, end_4, end_tallied, end_may, end_0}
use Rattle.life.proofs.end.end.Goals as goal

pub returns-then-n-gt-LAST_NUMBER : goal.returns-then-n-gt-LAST_NUMBER
returns-then-n-gt-LAST_NUMBER c = end_2 c.requires _ c.if-n-gt-LAST_NUMBER.true refl

pub returns-in_default : goal.returns-in_default
returns-in_default c =
    end_4 c.requires _ c.if-n-gt-LAST_NUMBER.false refl (place_none c.find.ensures c.in_default.is) refl

pub end_down-requires : goal.end_down-requires
end_down-requires c =
    let z = place_some c.find.ensures c.in-Some.is in
    (end_tallied c.requires, end_may c.requires c.args.n c.if-n-gt-LAST_NUMBER.false z.0 (λ y. z.1 (sym z.0 ∙ y)) c.count-depth.ensures)

pub returns : goal.returns
returns c =
    let z = place_some c.find.ensures c.in-Some.is in
    rw c.at.ensures (end_0 c.requires c.args.n c.if-n-gt-LAST_NUMBER.false z.0 (λ y. z.1 (sym z.0 ∙ y)) c.count-depth.ensures c.end_down.ensures refl)
