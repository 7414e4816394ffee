-- The sum so far and the reservations still to come are all.
use Prim.Native.Nat.{◌+◌, ◌*◌, ◌^◌, ◌≤◌}
use mathlib.Core.Path.{◌≡◌}
use lib.ListN.{drop}
use Rattle.model.specs.Rules.Reserves.{total_reserved}
use Rattle.reserves.proofs.sums.total.Given as goal

abbrev pub invariant-loop-reserve : goal.invariant-loop-reserve
invariant-loop-reserve l =
    (l.sum ≤ l.reserve-index * 2 ^ 32) × (l.sum + total_reserved (drop l.reserve-index l.reserves) ≡ total_reserved l.reserves)
