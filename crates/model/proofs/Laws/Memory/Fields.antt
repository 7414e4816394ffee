-- A slot's state, and a memory with one slot changed, slot by slot. (Of all other changes the fields compute.)
use Prim.Native.Nat.{ℕ, ◌≤◌, ◌<◌}
use native.Mathlib.Nat.{lt_of_not-le}
use native.Mathlib.Decide.{dec_le}
use mathlib.Core.Path.{◌≡◌, refl, sym, ap, ◌∙◌}
use mathlib.Core.Bool.{true, false, false≢true}
use lib.ListN.{length, length-set, get_or-eq_default}
use lib.Seq.{get_or-set_same, get_or-set_other}
use Rattle.model.specs.Types.{SlotState, Idle, Open, Precommitted, Slot, Memory}
use Rattle.model_types.specs.Memory.{idle_slot, is_active, is_precommitted, slot_at, with_slot}

-- a slot that is active and not precommitted is open
pub open-state : (state : SlotState) → is_active state ≡ true → is_precommitted state ≡ false → state ≡ Open
open-state Idle e f = absurd (false≢true e)
open-state Open e f = refl
open-state Precommitted e f = absurd (false≢true (sym f))

pub precommitted-state : (state : SlotState) → is_precommitted state ≡ true → state ≡ Precommitted
precommitted-state Idle e = absurd (false≢true e)
precommitted-state Open e = absurd (false≢true e)
precommitted-state Precommitted e = refl

-- a slot that isn't idle is there
pub active-there : (memory : Memory) (s : ℕ) → is_active (slot_at memory s).state ≡ true → s < length memory.slots
active-there memory s e = go (dec_le (length memory.slots) s)
  where
    go : Dec (length memory.slots ≤ s) → s < length memory.slots
    go (yes h) =
        absurd (false≢true (sym (ap (λ (slot : Slot). is_active slot.state) (get_or-eq_default memory.slots idle_slot {n = s} h)) ∙ e))
    go (no n) = lt_of_not-le n

module _ (memory : Memory) (s : ℕ) (slot : Slot) where
  pub slots_length : length (with_slot memory s slot).slots ≡ length memory.slots
  slots_length = length-set memory.slots s slot

  pub slot_same : s < length memory.slots → slot_at (with_slot memory s slot) s ≡ slot
  slot_same h = get_or-set_same memory.slots s slot idle_slot h

  pub slot-other : (t : ℕ) → (t ≡ s → ⊥) → slot_at (with_slot memory s slot) t ≡ slot_at memory t
  slot-other t n = get_or-set_other memory.slots s t slot idle_slot n
