-- `end_at` meets its contract: the hand-backs, the leave and the cleaning are the rule's, in an order that makes no difference.
use Rattle.life.specs.End.{end_place, end_low, end_lies, let_lies, end_served, ended}
use Rattle.life.proofs.end.end_at.Goals as goal

pub let_go-requires : goal.let_go-requires
let_go-requires c =
    (end_lies c.requires c.hand_all_back.ensures, end_low c.requires)

pub wake_listeners-requires : goal.wake_listeners-requires
wake_listeners-requires c =
    (let_lies c.requires c.hand_all_back.ensures c.let_go.ensures, end_low c.requires)

pub out_of_line-e-requires : goal.out_of_line-e-requires
out_of_line-e-requires c = (
  c.wake_listeners.ensures.whole,
  end_place c.requires,
  end_served c.requires c.hand_all_back.ensures c.let_go.ensures c.wake_listeners.ensures,
)

pub returns : goal.returns
returns c =
    ended c.requires c.hand_all_back.ensures c.let_go.ensures c.wake_listeners.ensures c.out_of_line-e.ensures c.clean.ensures
