-- The starts are those of extents of `size` blocks.
use Prim.Native.Nat.{◌-◌, ◌≤◌}
use Rattle.extents.specs.Starts.{AreStarts}
use Rattle.extents.proofs.starts.find_starts.Given as goal

abbrev pub invariant-loop-size : goal.invariant-loop-size
invariant-loop-size l = (1 ≤ l.size) × (l.size ≤ l.count) × AreStarts l.blocks l.sam l.«com» l.size l.starts

abbrev pub decreases-loop-size : goal.decreases-loop-size
decreases-loop-size l = l.count - l.size
