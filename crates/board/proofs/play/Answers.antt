-- `play` meets its contract: 11, 7, or the image after the whole records.
use mathlib.Core.Path.{refl}
use native.Mathlib.Omega.{arith}
use Rattle.board.specs.Answers.{save_short, plays_shows, play_short, play_done}
use Rattle.board.proofs.play.Goals as goal

pub returns-then-saved-ne-DONE : goal.returns-then-saved-ne-DONE
returns-then-saved-ne-DONE c =
    play_short c.args.s c.args.log.now c.args.out.now c.requires c.if-log-gt-LIMIT.false c.replay-r.ensures
    c.keep-saved.ensures c.if-saved-ne-DONE.true c.choose-then-saved-ne-DONE.ensures c.unplay-then-saved-ne-DONE.ensures

pub overflow_cast-result : goal.overflow_cast-result
overflow_cast-result c =
    omega (arith, save_short (plays_shows c.args.s c.args.log.now c.args.out.now c.requires c.if-log-gt-LIMIT.false c.replay-r.ensures) c.keep-saved.ensures)

pub returns : goal.returns
returns c =
    play_done c.args.s c.args.log.now c.args.out.now c.requires c.if-log-gt-LIMIT.false c.replay-r.ensures
    c.keep-saved.ensures c.if-saved-ne-DONE.false c.kind.ensures c.runs.ensures refl
