-- What slots have drawn against what they took, counted in whole bitmaps.
use Rattle.std.specs.Prelude.{ℕ, Bool, List, length, get_or, leb}
use Rattle.bitmap.specs.Sizes.{max_blocks, slot_count}
use Rattle.bitmap.specs.Blocks.{allocating_blocks, all_below}
use Rattle.model_types.specs.declared.memory.Slot.{Slot}
use Rattle.model_types.specs.declared.memory.Reserve.{Reserve}
use Rattle.model_types.specs.Memory.{idle_slot, no_reserve}

-- whether slot s has drawn no more blocks than it took: those with SAM 0 and TAM 1
abbrev pub drawn_fits_at : List ℕ → List Slot → List Reserve → ℕ → Bool
drawn_fits_at sam slots reserves s =
    leb (get_or reserves s no_reserve).drawn (length (allocating_blocks max_blocks sam (get_or slots s idle_slot).tam.words))

-- and so for every slot
unfoldable pub drawn_fits : List ℕ → List Slot → List Reserve → Bool
drawn_fits sam slots reserves = all_below slot_count (drawn_fits_at sam slots reserves)
