-- A slot that has drawn more than it took is found.
use Rattle.validity.proofs.Laws.Reserved.{drew_more}
use Rattle.validity.proofs.fit.drawn_fit.Goals as goal

pub returns-then-tally-reserve : goal.returns-then-tally-reserve
returns-then-tally-reserve c =
    drew_more c.args.memory.now c.loop-s.s _ _ _ c.shaped.ensures c.loop-s-test.true c.count_blocks-tally.ensures.allocating c.if-tally-reserve.true
