-- Those counted, and the active slots from the next on, are all of them.
use Prim.Native.Nat.{◌+◌, ◌≤◌}
use mathlib.Core.Path.{◌≡◌}
use lib.ListN.{drop}
use Rattle.model.specs.Rules.Calls.Status.{active_slots}
use Rattle.status.proofs.count_active.Given as goal

abbrev pub invariant-loop-slot : goal.invariant-loop-slot
invariant-loop-slot l = record { few : l.count ≤ l.slot-index; all : l.count + active_slots (drop l.slot-index l.slots) ≡ active_slots l.slots }
