-- What a commit makes of the bitmaps, and its stores.
use Rattle.std.specs.Prelude.{ℕ, cond, List, map, length, set, eqb}
use Rattle.std.specs.Bool.{xor}
use Rattle.bitmap.specs.Bits.{bit}
use Rattle.bitmap.specs.Majority.{majority}
use Rattle.model.specs.Types.{Bitmap, Slot, Nothing, Memory}
use Rattle.model_types.specs.Memory.{with_sam, with_slots, with_reserve, with_pending, with_tam, idle_slot, slot_at, reserve_at, sam_bit, com_bit, tam_bit, volume_bitmap, is_active}
use Rattle.model.specs.Rules.Reserves.{used_up}
use Rattle.model.specs.Rules.Stores.{Store, changes, commit_stores}

-- "SAM becomes, bit by bit, the majority of SAM, COM and TAM (table 3)."
unfoldable pub committed_sam : Memory → ℕ → Bitmap
committed_sam memory s = volume_bitmap memory (λ b. majority (sam_bit memory b) (com_bit memory b) (tam_bit (slot_at memory s) b))

-- the bitmap words that the commit of slot s changes; d is their number
unfoldable pub entries_of : Memory → ℕ → List Store
entries_of memory s = changes memory.sam.words (committed_sam memory s).words

-- d
unfoldable pub changed_of : Memory → ℕ → ℕ
changed_of memory s = length (entries_of memory s)

-- the stores due, 3·d + 2: the length of the store list, and none where the commit changes no word
unfoldable pub commit_due : Memory → ℕ → ℕ
commit_due memory s = cond (eqb (changed_of memory s) 0) 0 (length (commit_stores (entries_of memory s)))

-- "Each other seat that isn't idle takes the new SAM bit in its TAM for every block that this commit changed"
unfoldable pub refreshed : Memory → Bitmap → Slot → Slot
refreshed memory sam slot =
    cond (is_active slot.state)
    (with_tam slot (volume_bitmap memory (λ b. cond (xor (sam_bit memory b) (bit sam.words b)) (bit sam.words b) (tam_bit slot b))))
    slot

-- the memory after the commit of slot s: the new SAM, the others refreshed, "Then the seat is idle"; what it drew is used up
unfoldable pub committed : Memory → ℕ → Memory
committed memory s =
    let sam : Bitmap = committed_sam memory s in
    with_pending
    (with_reserve
    (with_slots (with_sam memory sam) (set (map (refreshed memory sam) memory.slots) s idle_slot))
    s
    (used_up (reserve_at memory s)))
    Nothing
