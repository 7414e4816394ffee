-- A slot after another's commit: its words, and what the model says of them.
use Prim.Native.Nat.{ℕ}
use mathlib.Core.Path.{◌≡◌, refl, ap}
use mathlib.Core.Bool.{true, false, cond}
use mathlib.Core.List.{List}
use Rattle.bitmap.specs.Bits.{IsBitmap, no_bits_from}
use Rattle.bitops.specs.Combine.{refresh_word, zip3}
use Rattle.bitops.proofs.Laws.Combine.{refresh-bitmap}
use Rattle.bitmap.specs.declared.Bitmap.{Bitmap}
use Rattle.model_types.specs.declared.memory.Slot.{Slot}
use Rattle.model_types.specs.declared.memory.Memory.{Memory}
use Rattle.model_types.specs.Memory.{bitmap, with_tam, idle_slot, is_active}
use Rattle.model.specs.Rules.Commit.{refreshed}
use Rattle.model_types.specs.Shape.{HasShape}
use Rattle.model.proofs.Laws.Memory.Valid.{ValidParts}
use Rattle.ending.specs.Ended.{refreshed_slot}

-- an idle slot stays
pub idle-stays : (old new : List ℕ) (slot : Slot) → is_active slot.state ≡ false → slot ≡ refreshed_slot old new slot
unfolding refreshed_slot
idle-stays old new slot e = rw e

-- another takes the words of a refresh
pub active-refreshed : (old new : List ℕ) (slot : Slot) (words : List ℕ) → is_active slot.state ≡ true → words ≡ zip3 refresh_word old new slot.tam.words
    → with_tam slot (bitmap words) ≡ refreshed_slot old new slot
unfolding refreshed_slot
active-refreshed old new slot words e made = rw (made, e)

-- whole words make the bits that the model names
pub refreshed-slot : (memory : Memory) (sam : Bitmap) (slot : Slot) → HasShape memory → ValidParts memory
    → IsBitmap sam.words → no_bits_from memory.blocks sam.words ≡ true
    → IsBitmap slot.tam.words → no_bits_from memory.blocks slot.tam.words ≡ true
    → refreshed_slot memory.sam.words sam.words slot ≡ refreshed memory sam slot
unfolding refreshed_slot refreshed
refreshed-slot memory sam slot shape parts is below slot_is slot-end =
    ap (λ (words : List ℕ). cond (is_active slot.state) (with_tam slot (bitmap words)) slot)
    (refresh-bitmap memory.blocks parts.few_blocks memory.sam.words sam.words slot.tam.words shape.sam is slot_is
    parts.sam_below below slot-end)

-- an idle slot stays
pub refreshed-idle : (memory : Memory) (sam : Bitmap) → refreshed memory sam idle_slot ≡ idle_slot
unfolding refreshed
refreshed-idle memory sam = refl
