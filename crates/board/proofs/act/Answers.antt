-- `act` meets its contract: the event's refusal, 7, or the new image.
use mathlib.Core.Path.{refl}
use native.Mathlib.Omega.{arith}
use Rattle.nucleus.specs.View.{view}
use Rattle.board.specs.Answers.{save_short, act_refused, act_short, act_done}
use Rattle.board.proofs.act.Goals as goal

pub returns-then-reply-ne-DONE : goal.returns-then-reply-ne-DONE
returns-then-reply-ne-DONE c =
    act_refused (view c.args.s) _ c.args.out.now c.act-reply.ensures c.if-reply-ne-DONE.true c.choose.ensures c.decline.ensures

pub returns-then-saved-ne-DONE : goal.returns-then-saved-ne-DONE
returns-then-saved-ne-DONE c =
    act_short (view c.args.s) _ c.args.out.now c.act-reply.ensures c.if-reply-ne-DONE.false c.keep-saved.ensures
    c.if-saved-ne-DONE.true c.choose-then-saved-ne-DONE.ensures c.decline-then-saved-ne-DONE.ensures

pub overflow_cast-result : goal.overflow_cast-result
overflow_cast-result c =
    omega (arith, save_short c.act-reply.ensures.state c.keep-saved.ensures)

pub returns : goal.returns
returns c =
    act_done (view c.args.s) _ c.args.out.now c.act-reply.ensures c.if-reply-ne-DONE.false c.keep-saved.ensures c.if-saved-ne-DONE.false
    c.kind.ensures c.runs.ensures refl
