-- The slots passed have bitmaps.
use Prim.Native.Nat.{ℕ, ◌<◌}
use lib.ListN.{get_or}
use Rattle.bitmap.specs.Bits.{IsBitmap}
use Rattle.model_types.specs.Memory.{idle_slot}
use Rattle.validity.proofs.shape.shaped.Given as goal

abbrev pub invariant-loop-slot : goal.invariant-loop-slot
invariant-loop-slot l = (k : ℕ) → k < l.slot-index → IsBitmap (get_or l.memory.slots k idle_slot).tam.words
