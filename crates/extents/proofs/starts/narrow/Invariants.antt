-- The words before k are narrowed, the others are as they were.
use Rattle.extents.proofs.Laws.Words.{Renewed}
use Rattle.extents.proofs.Laws.Starts.{narrowed_word}
use Rattle.extents.proofs.starts.narrow.Given as goal

abbrev pub invariant-loop-k : goal.invariant-loop-k
invariant-loop-k l = Renewed l.k (narrowed_word l.shift l.fn.starts) l.fn.starts l.starts
