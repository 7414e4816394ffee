-- The memory: how it is made and changed, and its bits. A whole memory, a whole slot and a whole reserve are written here and
-- nowhere else.
use Rattle.std.specs.Prelude.{ℕ, Bool, true, false, List, get_or, set, replicate}
use Rattle.bitmap.specs.Sizes.{bitmap_words, slot_count, words_for}
use Rattle.bitmap.specs.Bits.{bit, bitmap_of}
use Rattle.bitmap.specs.declared.Bitmap.{Bitmap}
use Rattle.model_types.specs.declared.memory.SlotState.{SlotState}
use Rattle.model_types.specs.declared.memory.SlotState.TheVariants.{Idle, Open, Precommitted}
use Rattle.model_types.specs.declared.memory.Slot.{Slot}
use Rattle.model_types.specs.declared.memory.Reserve.{Reserve}
use Rattle.model_types.specs.declared.memory.Pending.{Pending}
use Rattle.model_types.specs.declared.memory.Pending.TheVariants.{Nothing}
use Rattle.model_types.specs.declared.memory.Memory.{Memory}

abbrev pub bitmap : List ℕ → Bitmap
bitmap words = record { words = words }

-- "The empty map, 128 words of zero"
abbrev pub empty_bitmap : Bitmap
empty_bitmap = bitmap (replicate bitmap_words 0)

abbrev pub slot_of : SlotState → Bitmap → Slot
slot_of state tam = record { tam = tam; state = state }

abbrev pub with_state : Slot → SlotState → Slot
with_state slot state = slot_of state slot.tam

abbrev pub with_tam : Slot → Bitmap → Slot
with_tam slot tam = slot_of slot.state tam

-- "An idle seat's map (TAM) is empty."
abbrev pub idle_slot : Slot
idle_slot = slot_of Idle empty_bitmap

-- what is set aside for a slot, and what its transaction has drawn of it
abbrev pub reserve_of : ℕ → ℕ → Reserve
reserve_of reservation drawn = record { reservation = reservation; drawn = drawn }

abbrev pub no_reserve : Reserve
no_reserve = reserve_of 0 0

-- nothing reserved for any slot
abbrev pub no_reserves : List Reserve
no_reserves = replicate slot_count no_reserve

abbrev pub memory_of : ℕ → ℕ → Bitmap → Bitmap → List Slot → List Reserve → Pending → Memory
memory_of blocks cursor sam «com» slots reserves pending =
    record { blocks = blocks; cursor = cursor; sam = sam; «com» = «com»; slots = slots; reserves = reserves; pending = pending }

abbrev pub with_cursor : Memory → ℕ → Memory
with_cursor memory cursor =
    memory_of memory.blocks cursor memory.sam memory.com memory.slots memory.reserves memory.pending

abbrev pub with_sam : Memory → Bitmap → Memory
with_sam memory sam =
    memory_of memory.blocks memory.cursor sam memory.com memory.slots memory.reserves memory.pending

abbrev pub with_com : Memory → Bitmap → Memory
with_com memory «com» =
    memory_of memory.blocks memory.cursor memory.sam «com» memory.slots memory.reserves memory.pending

abbrev pub with_slots : Memory → List Slot → Memory
with_slots memory slots =
    memory_of memory.blocks memory.cursor memory.sam memory.com slots memory.reserves memory.pending

abbrev pub with_slot : Memory → ℕ → Slot → Memory
with_slot memory s slot = with_slots memory (set memory.slots s slot)

abbrev pub with_reserves : Memory → List Reserve → Memory
with_reserves memory reserves =
    memory_of memory.blocks memory.cursor memory.sam memory.com memory.slots reserves memory.pending

abbrev pub with_reserve : Memory → ℕ → Reserve → Memory
with_reserve memory s reserve = with_reserves memory (set memory.reserves s reserve)

abbrev pub with_pending : Memory → Pending → Memory
with_pending memory pending =
    memory_of memory.blocks memory.cursor memory.sam memory.com memory.slots memory.reserves pending

-- a volume just opened: "all seats idle, COM equal to SAM". Document 02, job 6: the block to be searched first is "0 after opening";
-- job 7: nothing is reserved, "until a cut wipes the claims"
abbrev pub quiet_memory : ℕ → Bitmap → Pending → Memory
quiet_memory blocks sam pending = memory_of blocks 0 sam sam (replicate slot_count idle_slot) no_reserves pending

-- the memory of zeros
abbrev pub zero_memory : Memory
zero_memory = quiet_memory 0 empty_bitmap Nothing

-- the slot s; one above 7 counts as idle
abbrev pub slot_at : Memory → ℕ → Slot
slot_at memory s = get_or memory.slots s idle_slot

-- what is reserved for slot s; nothing for one above 7
abbrev pub reserve_at : Memory → ℕ → Reserve
reserve_at memory s = get_or memory.reserves s no_reserve

-- a slot that isn't idle
abbrev pub is_active : SlotState → Bool
is_active Idle = false
is_active Open = true
is_active Precommitted = true

abbrev pub is_precommitted : SlotState → Bool
is_precommitted Idle = false
is_precommitted Open = false
is_precommitted Precommitted = true

-- the bit of block b in SAM, in COM, and in a slot's TAM
abbrev pub sam_bit : Memory → ℕ → Bool
sam_bit memory b = bit memory.sam.words b

abbrev pub com_bit : Memory → ℕ → Bool
com_bit memory b = bit memory.com.words b

abbrev pub tam_bit : Slot → ℕ → Bool
tam_bit slot b = bit slot.tam.words b

-- the bitmap of this memory's volume whose bits are f's
abbrev pub volume_bitmap : Memory → (ℕ → Bool) → Bitmap
volume_bitmap memory f = bitmap (bitmap_of memory.blocks f)

-- W of this memory's volume
abbrev pub volume_words : Memory → ℕ
volume_words memory = words_for memory.blocks
