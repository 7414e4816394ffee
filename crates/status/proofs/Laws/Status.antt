-- Status: slots counted one after the other, and what the counts come to.
use Prim.Native.Nat.{ℕ, ◌+◌, ◌-◌, ◌≤◌, ◌<◌}
use native.Mathlib.Numerals.{add-one}
use native.Mathlib.Omega.{arith}
use mathlib.Core.Path.{◌≡◌, ap, ◌∙◌}
use mathlib.Core.Bool.{Bool, true, false, not, cond, and-false}
use mathlib.Core.Option.{none}
use mathlib.Core.List.{List}
use lib.ListN.{length, get_or, drop, drop_of_length-le}
use lib.Seq.{drop-cons}
use borrow.Author.Tests.{not-false}
use Rattle.bitmap.specs.Bits.{bit}
use Rattle.bitmap.specs.Sizes.{max_blocks}
use Rattle.bitmap.specs.Blocks.{allocated_blocks, is_allocating, allocating_blocks, is_freeing, freeing_blocks}
use Rattle.bitmap.proofs.Laws.Bits.{no_bits-bit}
use Rattle.bitmap.proofs.Laws.Count.{count_past}
use Rattle.counting.specs.declared.Tally.{Tally}
use Rattle.counting.specs.Count.{IsTally}
use Rattle.model_types.specs.declared.answer.Counts.{Counts}
use Rattle.model_types.specs.declared.memory.Slot.{Slot}
use Rattle.model_types.specs.declared.memory.Memory.{Memory}
use Rattle.model_types.specs.Memory.{is_active}
use Rattle.model.specs.Rules.Valid.{valid}
use Rattle.model.specs.Rules.Causes.{memory_invalid}
use Rattle.model.specs.Rules.Calls.Status.{status_error, allocated, active_slots, counts}
use Rattle.model.proofs.Laws.Calls.First.{first-none}
use Rattle.model.proofs.Laws.Memory.Valid.{ValidParts, valid-parts}
use Rattle.model.proofs.Laws.Promises.FourCounts.{four-add-up, allocated-is-freeing-and-held}

module _ (slots : List Slot) (s : ℕ) (d : Slot) (count : ℕ) where
  -- the active slots from s on: the one there, and those behind it
  active-from : s < length slots → active_slots (drop s slots) ≡ cond (is_active (get_or slots s d).state) 1 0 + active_slots (drop (s + 1) slots)
  unfolding active_slots
  active-from l = rw (add-one s) (ap active_slots (drop-cons slots s d l))

  module _ (l : s < length slots) (so : count + active_slots (drop s slots) ≡ active_slots slots) where
    -- an active one is counted
    pub one_more : is_active (get_or slots s d).state ≡ true → (count + 1) + active_slots (drop (s + 1) slots) ≡ active_slots slots
    one_more e = omega (arith, so, active-from l ∙ ap (λ (t : Bool). cond t 1 0 + active_slots (drop (s + 1) slots)) e)

    -- an idle one isn't
    pub same_count : is_active (get_or slots s d).state ≡ false → count + active_slots (drop (s + 1) slots) ≡ active_slots slots
    same_count e = omega (arith, so, active-from l ∙ ap (λ (t : Bool). cond t 1 0 + active_slots (drop (s + 1) slots)) e)

-- with none behind, all are counted
pub all-counted : (slots : List Slot) (s count : ℕ) → length slots ≤ s → count + active_slots (drop s slots) ≡ active_slots slots → count ≡ active_slots slots
unfolding active_slots
all-counted slots s count l so = omega (arith, so, ap active_slots (drop_of_length-le slots l))

-- ---- the answer

-- cause 1 is its only one
pub is_valid : (memory : Memory) → status_error memory ≡ none → valid memory ≡ true
unfolding status_error memory_invalid
is_valid memory e = not-false (valid memory) (first-none _ e).0

-- the counts fit the volume
pub record Within (blocks : ℕ) (tally : Tally) : Type 0 where
  pub volume : tally.allocated + tally.allocating ≤ blocks
  pub freed : tally.freeing ≤ tally.allocated

module _ (memory : Memory) (tally : Tally) (is : IsTally memory.sam.words memory.com.words tally) where
  -- in a valid memory the blocks of whole bitmaps are those below m, since no bitmap has bits from m on
  module _ (parts : ValidParts memory) where
    sam-past : (b : ℕ) → memory.blocks ≤ b → bit memory.sam.words b ≡ false
    sam-past b = no_bits-bit memory.blocks memory.sam.words b parts.sam_below

    com-past : (b : ℕ) → memory.blocks ≤ b → bit memory.com.words b ≡ false
    com-past b = no_bits-bit memory.blocks memory.com.words b parts.com_below

    allocated-is : tally.allocated ≡ (counts memory).allocated
    unfolding counts allocated allocated_blocks
    allocated-is = is.allocated ∙ count_past (bit memory.sam.words) memory.blocks max_blocks parts.few_blocks sam-past

    allocating-is : tally.allocating ≡ (counts memory).allocating
    unfolding counts allocating_blocks is_allocating
    allocating-is =
        is.allocating
        ∙ count_past (is_allocating memory.sam.words memory.com.words) memory.blocks max_blocks parts.few_blocks
        (λ b h. rw (com-past b h) (and-false (not (bit memory.sam.words b))))

    freeing-is : tally.freeing ≡ (counts memory).freeing
    unfolding counts freeing_blocks is_freeing
    freeing-is =
        is.freeing
        ∙ count_past (is_freeing memory.sam.words memory.com.words) memory.blocks max_blocks parts.few_blocks
        (λ b h. rw (sam-past b h))

  module _ (sound : valid memory ≡ true) where
    pub counts-within : Within memory.blocks tally
    counts-within =
        let parts = valid-parts memory sound in
        let allocated = allocated-is-freeing-and-held memory sound in
        record {
          volume = omega (arith, allocated-is parts, allocating-is parts, four-add-up memory sound, allocated);
          freed = omega (arith, allocated-is parts, freeing-is parts, allocated);
        }

    -- what is left of the volume is available, and of the allocated blocks held
    available-is : memory.blocks - tally.allocated - tally.allocating ≡ (counts memory).available
    available-is =
        let parts = valid-parts memory sound in
        omega (arith, allocated-is parts, allocating-is parts, four-add-up memory sound, allocated-is-freeing-and-held memory sound)

    held-is : tally.allocated - tally.freeing ≡ (counts memory).held
    held-is =
        let parts = valid-parts memory sound in
        omega (arith, allocated-is parts, freeing-is parts, allocated-is-freeing-and-held memory sound)

    abbrev pub told : ℕ → Counts
    told active =
        record {
          allocated = tally.allocated;
          available = memory.blocks - tally.allocated - tally.allocating;
          allocating = tally.allocating;
          freeing = tally.freeing;
          held = tally.allocated - tally.freeing;
          active = active;
        }

    pub counts-are : {active : ℕ} → active ≡ active_slots memory.slots → told active ≡ counts memory
    unfolding counts
    counts-are e = let parts = valid-parts memory sound in rw (e, available-is, held-is, allocated-is parts, allocating-is parts, freeing-is parts)
