-- The changed words are those counted so far and those behind.
use Prim.Native.Nat.{◌+◌, ◌≤◌}
use mathlib.Core.Path.{◌≡◌}
use lib.ListN.{length}
use Rattle.model.specs.Rules.Stores.{changes_from}
use Rattle.bitops.proofs.compare.changed.Given as goal

abbrev pub invariant-loop-a : goal.invariant-loop-a
invariant-loop-a l =
    (l.count ≤ length l.yielded)
    × (l.count + length (changes_from (length l.yielded) l.a-iterator.a.rest.now l.a-iterator.b.rest.now) ≡ length (changes_from 0 l.old l.new))
