-- `judge` meets its contract: a candidate that is not consistent, that the edition cannot hold, or whose image is another, is the reading of no image. Assumes
-- nothing.
use mathlib.Core.Path.{refl}
use Rattle.saving.specs.Editions.{known_few, known_places}
use Rattle.loading.specs.Loads.{foreign, accepted}
use Rattle.loading.specs.Judges.{row_known, old_consists, bare_holds, foreign_not, foreign_full, foreign_other}
use Rattle.loading.proofs.judge.judge.Goals as goal

pub candidate-s-requires : goal.candidate-s-requires
candidate-s-requires c =
    let k = row_known c.args.image.now c.requires.0 c.requires.1 in
    (known_few k, known_places k)

pub returns-then-not-consists : goal.returns-then-not-consists
returns-then-not-consists c =
    foreign (foreign_not c.requires.0 c.candidate-s.ensures.0 (c.consists.ensures.no c.if-not-consists.true))
    c.refuse.ensures

pub returns-then-not-holds : goal.returns-then-not-holds
returns-then-not-holds c =
    foreign (foreign_full c.requires.0 c.candidate-s.ensures.0 (c.holds.ensures.no c.if-not-holds.true))
    c.refuse-then-not-holds.ensures

pub same-requires : goal.same-requires
same-requires c =
    (known_few (row_known c.args.image.now c.requires.0 c.requires.1), old_consists _ (c.consists.ensures.yes c.if-not-consists.false))

pub returns-then-not-same : goal.returns-then-not-same
returns-then-not-same c =
    foreign (foreign_other c.requires.0 c.candidate-s.ensures.0 (c.same.ensures.no c.if-not-same.true))
    c.refuse-then-not-same.ensures

pub returns : goal.returns
returns c =
    let k = c.consists.ensures.yes c.if-not-consists.false in
    accepted (record {
      told = refl;
      consists = k;
      image = (
        c.args.row,
        record {
          known = row_known c.args.image.now c.requires.0 c.requires.1;
          consistent = k.consistent;
          holds = bare_holds c.args.row c.candidate-s.result (c.holds.ensures.yes c.if-not-holds.false) c.candidate-s.ensures.1 c.candidate-s.ensures.2;
          bytes = c.same.ensures.yes c.if-not-same.false;
        },
      );
    })
