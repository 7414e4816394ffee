-- The first n available blocks met are taken, and the search goes on at `next`.
use Rattle.available.proofs.Laws.Take.{Taken}
use Rattle.available.proofs.scan.take_met.Given as goal

abbrev pub invariant-loop-n : goal.invariant-loop-n
invariant-loop-n l = Taken l.blocks l.cursor l.sam l.fn.com l.fn.tam l.fn.list l.n l.next l.«com» l.tam l.list
