-- The slots after a commit, word by word.
use Rattle.std.specs.Prelude.{ℕ, cond, List, map, set}
use Rattle.bitops.specs.Combine.{refresh_word, zip3}
use Rattle.model_types.specs.declared.memory.Slot.{Slot}
use Rattle.model_types.specs.Memory.{bitmap, with_tam, idle_slot, is_active}

-- another slot: the new SAM's bits where the commit changed SAM, and its own elsewhere; an idle one stays
unfoldable pub refreshed_slot : List ℕ → List ℕ → Slot → Slot
refreshed_slot old new slot = cond (is_active slot.state) (with_tam slot (bitmap (zip3 refresh_word old new slot.tam.words))) slot

-- all of them: the slot at this index is idle
abbrev pub ended_slots : List ℕ → List ℕ → List Slot → ℕ → List Slot
ended_slots old new slots at = map (refreshed_slot old new) (set slots at idle_slot)
