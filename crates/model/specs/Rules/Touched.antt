-- What a slot has touched in its transaction, and of that what it took.
use Rattle.std.specs.Prelude.{ℕ, Bool, not, ◌&&◌, List, length, eqb}
use Rattle.std.specs.Bool.{xor}
use Rattle.bitmap.specs.Blocks.{from}
use Rattle.model.specs.Types.{Slot, Memory}
use Rattle.model_types.specs.Memory.{slot_at, sam_bit, tam_bit}

-- "A seat has touched a block where its TAM differs from SAM."
unfoldable pub touched : Memory → Slot → ℕ → Bool
touched memory slot b = xor (tam_bit slot b) (sam_bit memory b)

-- the blocks that slot s has touched so far, lowest first; t is their number
unfoldable pub touched_blocks : Memory → ℕ → List ℕ
touched_blocks memory s = from (touched memory (slot_at memory s)) memory.blocks 0

-- whether it has touched a block at all
unfoldable pub touched_some : Memory → ℕ → Bool
touched_some memory s = not (eqb (length (touched_blocks memory s)) 0)

-- whether a slot took a block: it has touched it, and SAM is 0
unfoldable pub took : Memory → Slot → ℕ → Bool
took memory slot b = touched memory slot b && not (sam_bit memory b)

-- the blocks that slot s took, lowest first
unfoldable pub taken_blocks : Memory → ℕ → List ℕ
taken_blocks memory s = from (took memory (slot_at memory s)) memory.blocks 0
