-- The words before k have the available blocks.
use Rattle.available.specs.Available.{available_word}
use Rattle.extents.proofs.Laws.Words.{Renewed}
use Rattle.extents.proofs.starts.put_available.Given as goal

abbrev pub invariant-loop-k : goal.invariant-loop-k
invariant-loop-k l = Renewed l.k (available_word l.blocks l.sam l.«com») l.fn.starts l.starts
