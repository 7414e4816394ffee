-- The memory and the list after blocks are taken, and the first of them.
use Prim.Native.Nat.{ℕ, ◌≤◌}
use mathlib.Core.Path.{◌≡◌, ap, ◌∙◌}
use mathlib.Core.List.{List, ◌++◌}
use lib.ListN.{length, get_or, drop, get_or-append}
use Rattle.model_types.specs.declared.memory.Slot.{Slot}
use Rattle.model_types.specs.declared.memory.Memory.{Memory}
use Rattle.model_types.specs.declared.memory.Reserve.{Reserve}
use Rattle.model_types.specs.Memory.{bitmap, slot_at, no_reserve, with_cursor, with_com, with_slot, with_reserve, with_tam}
use Rattle.bitmap.specs.Round.{after_last}
use Rattle.model.specs.Rules.Reserves.{drawing}
use Rattle.model.specs.Rules.Calls.Allocate.{taking}
use Rattle.available.specs.Take.{Takes}

-- the memory with the blocks at 1 in COM and in the slot's TAM, the cursor behind the last one, and its reservation drawn on
pub took : (memory : Memory) (s count at cursor : ℕ) (own : Slot) (reserve : Reserve)
    → at ≡ s
    → own ≡ slot_at memory s
    → (blocks list «com» tam after : List ℕ)
    → Takes memory.blocks count blocks memory.com.words own.tam.words list «com» tam after
    → cursor ≡ after_last memory.blocks memory.cursor blocks
    → reserve ≡ drawing (get_or memory.reserves at no_reserve) count
    → length blocks ≡ count
    → with_reserve (with_cursor (with_slot (with_com memory (bitmap «com»)) at (with_tam own (bitmap tam))) cursor) at reserve ≡ taking memory s blocks
unfolding taking
took memory s count at cursor own reserve is read blocks list «com» tam after t moved drew size = rw (drew, t.in_com, t.in_tam, read, moved, size, is)

-- the first of them stands first in the list
pub first-listed : (count : ℕ) (blocks list after : List ℕ) → 1 ≤ length blocks → after ≡ blocks ++ drop count list → get_or after 0 0 ≡ get_or blocks 0 0
first-listed count blocks list after some e = ap (λ (l : List ℕ). get_or l 0 0) e ∙ get_or-append blocks (drop count list) 0 0 some
