-- The memory after a commit, by the parts that the code makes: SAM is the slot's bitmap, the slots are refreshed in whole words, and
-- what the slot has drawn is used up.
use Prim.Native.Nat.{ℕ, suc}
use mathlib.Core.Path.{◌≡◌, refl, sym, ap, ap₂, ◌∙◌}
use mathlib.Core.Bool.{true}
use mathlib.Core.List.{List, [], ◌∷◌, map}
use lib.ListN.{get_or, set}
use Rattle.bitmap.specs.Bits.{IsBitmap, no_bits_from}
use Rattle.bitmap.specs.declared.Bitmap.{Bitmap}
use Rattle.model_types.specs.declared.memory.Slot.{Slot}
use Rattle.model_types.specs.declared.memory.Pending.TheVariants.{Nothing}
use Rattle.model_types.specs.declared.memory.Memory.{Memory}
use Rattle.model_types.specs.Memory.{slot_at, reserve_at, idle_slot, is_active, with_sam, with_slots, with_reserve, with_pending}
use Rattle.model.specs.Rules.Reserves.{used_up}
use Rattle.model.specs.Rules.Commit.{committed_sam, refreshed, committed}
use Rattle.model_types.specs.Shape.{HasShape}
use Rattle.model_types.proofs.Laws.Shape.{empty-is}
use Rattle.model.proofs.Laws.Memory.Valid.{ValidParts, slot-below, no_bits-empty}
use Rattle.model.proofs.Laws.Commit.Committed.{committed-bitmap, committed-below}
use Rattle.model.proofs.Laws.Commit.CommittedTam.{committed-tam}
use Rattle.ending.specs.Ended.{refreshed_slot, ended_slots}
use Rattle.ending.proofs.Laws.Slots.{map-set}
use Rattle.ending.proofs.Laws.Refreshed.{refreshed-slot, refreshed-idle}

-- a function that agrees on each slot
map_each : (f g : Slot → Slot) (slots : List Slot) → ((t : ℕ) → f (get_or slots t idle_slot) ≡ g (get_or slots t idle_slot)) → map f slots ≡ map g slots
map_each f g [] h = refl
map_each f g (slot ∷ slots) h = ap₂ ◌∷◌ (h 0) (map_each f g slots (λ t. h (suc t)))

module _ (memory : Memory) (s : ℕ) (shape : HasShape memory) (parts : ValidParts memory) (active : is_active (slot_at memory s).state ≡ true) where
  sam-is : committed_sam memory s ≡ (slot_at memory s).tam
  sam-is = committed-tam memory s parts (shape.tam s) active

  -- whole words make the bits that the model names
  refreshed-is : (slot : Slot) → IsBitmap slot.tam.words → no_bits_from memory.blocks slot.tam.words ≡ true
      → refreshed_slot memory.sam.words (slot_at memory s).tam.words slot ≡ refreshed memory (committed_sam memory s) slot
  refreshed-is slot is end =
      ap (λ (sam : Bitmap). refreshed_slot memory.sam.words sam.words slot) (sym sam-is)
      ∙ refreshed-slot memory (committed_sam memory s) slot shape parts (committed-bitmap memory s) (committed-below memory s) is end

  slots-are : ended_slots memory.sam.words (slot_at memory s).tam.words memory.slots s
      ≡ set (map (refreshed memory (committed_sam memory s)) memory.slots) s idle_slot
  slots-are =
      map-set (refreshed_slot memory.sam.words (slot_at memory s).tam.words) memory.slots s idle_slot
      ∙ ap₂ (λ (slots : List Slot) (slot : Slot). set slots s slot)
      (map_each _ _ memory.slots (λ t. refreshed-is (slot_at memory t) (shape.tam t) (slot-below memory t parts)))
      (refreshed-is idle_slot empty-is (no_bits-empty memory.blocks) ∙ refreshed-idle memory (committed_sam memory s))

  pub committed-parts : with_pending
      (with_reserve
      (with_slots
      (with_sam memory (slot_at memory s).tam)
      (ended_slots memory.sam.words (slot_at memory s).tam.words memory.slots s))
      s
      (used_up (reserve_at memory s)))
      Nothing
      ≡ committed memory s
  unfolding committed
  committed-parts =
      ap₂
      (λ (sam : Bitmap) (slots : List Slot). with_pending (with_reserve (with_slots (with_sam memory sam) slots) s (used_up (reserve_at memory s))) Nothing)
      (sym sam-is)
      slots-are
