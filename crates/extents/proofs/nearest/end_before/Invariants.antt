-- There is no start between `end` and `from`.
use Prim.Native.Nat.{◌≤◌}
use mathlib.Core.Path.{◌≡◌}
use Rattle.extents.specs.Nearest.{end_before}
use Rattle.extents.proofs.nearest.end_before.Given as goal

abbrev pub invariant-loop-end : goal.invariant-loop-end
invariant-loop-end l = (l.end ≤ l.from) × (end_before l.starts l.from ≡ end_before l.starts l.end)

abbrev pub decreases-loop-end : goal.decreases-loop-end
decreases-loop-end l = l.end
