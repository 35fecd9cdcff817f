-- `seat` meets its contract: eight stores, of what the bytes say. Assumes nothing.
use Rattle.loading.specs.Fills.{seated}
use Rattle.loading.proofs.read.seat.Goals as goal

pub returns : goal.returns
returns c =
    let x = c.args in
    let k = c.requires in
    seated k.2 k.1 x.row x.image.now x.o c.name.ensures c.stand.ensures c.tell.ensures c.raise.ensures
    (λ i. record {
      number = x.n.0;
      standing = c.at-2.ensures i;
      partner = c.at.ensures i;
      word = c.word-word.ensures i;
      code = c.at-4.ensures i;
      who = c.at-3.ensures i;
      answer = c.word-answer.ensures i;
      parent = c.parent.ensures i;
    })
