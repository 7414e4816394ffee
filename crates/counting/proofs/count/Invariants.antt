-- The ones are those counted so far and those of the words behind.
use Prim.Native.Nat.{ℕ, ◌+◌, ◌*◌, ◌≤◌}
use mathlib.Core.Path.{◌≡◌}
use lib.ListN.{length}
use Rattle.counting.specs.Count.{ones_of}
use Rattle.counting.proofs.count.Given as goal

abbrev pub invariant-loop-a : goal.invariant-loop-a
invariant-loop-a g l =
    (l.count ≤ 32 * length l.yielded)
    × ((made : ℕ → ℕ → ℕ) → ((x y w : ℕ) → goal.F-post g l.word x y w → w ≡ made x y)
    → l.count + ones_of made l.a-iterator.a.rest.now l.a-iterator.b.rest.now ≡ ones_of made l.left l.right)
