-- The touched blocks of the first k words are taken, and what isn't left there is gathered.
use Rattle.touches.specs.Left.{differ}
use Rattle.touches.proofs.Laws.Taking.{Taking}
use Rattle.touches.proofs.touch.take_touched.Given as goal

abbrev pub invariant-loop-k : goal.invariant-loop-k
invariant-loop-k l = Taking l.fn.left (differ l.tam l.sam) l.left l.wrong l.k
