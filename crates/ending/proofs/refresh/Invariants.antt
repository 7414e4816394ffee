-- The slot is idle, and the first slots are refreshed.
use mathlib.Core.Path.{◌≡◌}
use lib.ListN.{set}
use Rattle.model_types.specs.Memory.{idle_slot}
use Rattle.ending.specs.Ended.{refreshed_slot}
use Rattle.ending.proofs.Laws.Slots.{made_first}
use Rattle.ending.proofs.refresh.Given as goal

abbrev pub invariant-loop-slot : goal.invariant-loop-slot
invariant-loop-slot l = l.slots ≡ made_first (refreshed_slot l.old l.new) l.slot-index (set l.fn.slots l.at idle_slot)
