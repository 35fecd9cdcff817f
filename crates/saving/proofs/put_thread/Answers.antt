-- `put_thread` meets its contract: the call, and behind it the answer.
use Rattle.saving.specs.Puts.{puts_then}
use Rattle.saving.proofs.put_thread.Goals as goal

pub returns : goal.returns
returns c =
    puts_then (rw c.six.ensures at c.put.ensures) _ c.requires (rw c.six-2.ensures at c.put-2.ensures)
