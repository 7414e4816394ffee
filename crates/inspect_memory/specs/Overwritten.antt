-- A part of the memory overwritten: whether it is in range, and the memory then.
use Rattle.std.specs.Prelude.{ℕ, ◌<◌, get_or, slice_set, ⊤}
use Rattle.bitmap.specs.Sizes.{bitmap_words, slot_count}
use Rattle.bitmap.specs.declared.Bitmap.{Bitmap}
use Rattle.further_line.specs.declared.asked.Overwrite.{Overwrite}
use Rattle.further_line.specs.declared.asked.Overwrite.TheVariants.{Blocks, Cursor, Sam, Com, Tam, State, Reservation, Drawn, Pending}
use Rattle.model_types.specs.declared.memory.Memory.{Memory}
use Rattle.model_types.specs.declared.memory.Slot.{Slot}
use Rattle.model_types.specs.declared.memory.Reserve.{Reserve}
use Rattle.model_types.specs.Memory.{idle_slot, no_reserve}

-- its slot and its word are among those that there are
abbrev pub InRange : Overwrite → Type 0
InRange (Blocks blocks) = ⊤
InRange (Cursor block) = ⊤
InRange (Sam index word) = index < bitmap_words
InRange (Com index word) = index < bitmap_words
InRange (Tam slot index word) = (slot < slot_count) × (index < bitmap_words)
InRange (State slot state) = slot < slot_count
InRange (Reservation slot blocks) = slot < slot_count
InRange (Drawn slot blocks) = slot < slot_count
InRange (Pending pending) = ⊤

-- a bitmap with another word
abbrev pub with_word : Bitmap → ℕ → ℕ → Bitmap
with_word map index word = record map { words = slice_set map.words index word }

-- slot s of a memory
abbrev pub slot_at : Memory → ℕ → Slot
slot_at memory s = get_or memory.slots s idle_slot

-- what is reserved for it
abbrev pub reserve_at : Memory → ℕ → Reserve
reserve_at memory s = get_or memory.reserves s no_reserve

-- the memory then
abbrev pub overwritten : Overwrite → Memory → Memory
overwritten (Blocks m) memory = record memory { blocks = m }
overwritten (Cursor block) memory = record memory { cursor = block }
overwritten (Sam index word) memory = record memory { sam = with_word memory.sam index word }
overwritten (Com index word) memory = record memory { «com» = with_word memory.com index word }
overwritten (Tam s index word) memory =
    record memory { slots = slice_set memory.slots s (record (slot_at memory s) { tam = with_word (slot_at memory s).tam index word }) }
overwritten (State s other) memory = record memory { slots = slice_set memory.slots s (record (slot_at memory s) { state = other }) }
overwritten (Reservation s blocks) memory =
    record memory { reserves = slice_set memory.reserves s (record (reserve_at memory s) { reservation = blocks }) }
overwritten (Drawn s blocks) memory =
    record memory { reserves = slice_set memory.reserves s (record (reserve_at memory s) { drawn = blocks }) }
overwritten (Pending work) memory = record memory { pending = work }
