-- The first n blocks of the extent are taken.
use Prim.Native.Nat.{ℕ}
use Rattle.extents.specs.Take.{LiesIn}
use Rattle.extents.proofs.Laws.Take.{TakenTo}
use Rattle.extents.proofs.take.take_extent.Given as goal

abbrev pub invariant-loop-n : goal.invariant-loop-n
invariant-loop-n l =
    (m : ℕ) → LiesIn m l.start l.count l.fn.com l.fn.tam → TakenTo m l.start l.count l.fn.com l.fn.tam l.fn.list l.n l.«com» l.tam l.list
