-- In a valid memory each slot is found right and nothing is left.
use Prim.Native.Nat.{ℕ, zero, suc, ◌+◌, ◌≤◌, ◌<◌}
use native.Mathlib.Omega.{arith}
use mathlib.Core.Path.{◌≡◌, refl, sym, ap, ap₂, ◌∙◌}
use mathlib.Core.Logic.{⊎_elim}
use mathlib.Core.Bool.{Bool, true, false, cond, xor, ◌&&◌, false≢true}
use mathlib.Core.List.{List, [], ◌∷◌}
use lib.ListN.{get_or, take, replicate}
use lib.Seq.{take_all}
use Rattle.bitmap.specs.Sizes.{bitmap_words, slot_count}
use Rattle.bitmap.specs.Bits.{bit, no_bits_from}
use Rattle.bitmap.proofs.Laws.Bits.{below-or-from, bit-empty, bitmap-ext, no_bits-bit}
use Rattle.model_types.specs.declared.memory.Slot.{Slot}
use Rattle.model_types.specs.declared.memory.Memory.{Memory}
use Rattle.model_types.specs.Memory.{idle_slot, slot_at, is_active, empty_bitmap, sam_bit, tam_bit}
use Rattle.model.specs.Rules.Touched.{touched}
use Rattle.model.specs.Rules.Valid.{same_words, slot_valid, touches}
use Rattle.model.proofs.Laws.Disk.Writes.{and_second, words_same}
use Rattle.model.proofs.Laws.Memory.Valid.{ValidParts, all_slots-at, touches_at, touches_block, idle-valid, slot-below}
use Rattle.model.proofs.Laws.Touched.Touches.{one, differs}
use Rattle.model_types.proofs.Laws.Shape.{empty-is}
use Rattle.model_types.specs.Shape.{HasShape}
use Rattle.touches.specs.Left.{differ}
use Rattle.touches.proofs.Laws.Differ.{differ-is}
use Rattle.validity.proofs.Laws.LeftBits.{bit-differ, bits_left}
use Rattle.validity.proofs.Laws.Passed.{Passed, SlotTaken}

one-true : (t : Bool) → 1 ≤ one t → t ≡ true
one-true true h = refl
one-true false h = absurd (omega arith)

one-false : (t : Bool) → one t ≡ 0 → t ≡ false
one-false true e = absurd (omega arith)
one-false false e = refl

-- the slots passed and one more touch a block no more often than all do
touches-within : (memory : Memory) (b : ℕ) (slots : List Slot) (s : ℕ)
    → touches memory b (take s slots) + one (touches_block memory (get_or slots s idle_slot) b) ≤ touches memory b slots
unfolding touches
touches-within memory b [] zero = omega arith
touches-within memory b [] (suc s) = omega arith
touches-within memory b (slot ∷ slots) zero = omega arith
touches-within memory b (slot ∷ slots) (suc s) = omega (arith, touches-within memory b slots s)

module _ (memory : Memory) where
  -- neither SAM nor COM has bits from m on, so they don't differ there
  pub no-differs : no_bits_from memory.blocks memory.sam.words ≡ true → no_bits_from memory.blocks memory.com.words ≡ true
      → (b : ℕ) → memory.blocks ≤ b → differs memory b ≡ false
  unfolding xor
  no-differs sam_none com_none b h =
      ap₂ xor (no_bits-bit memory.blocks memory.sam.words b sam_none h) (no_bits-bit memory.blocks memory.com.words b com_none h)

  -- all slots passed
  pub passed-all : (left : List ℕ) → HasShape memory → Passed memory slot_count left
      → (b : ℕ) → touches memory b memory.slots + one (bit left b) ≡ one (differs memory b)
  passed-all left shape passed b = rw (take_all slot_count memory.slots (omega (arith, shape.slots))) at (passed.counted b)

module _ (memory : Memory) (shape : HasShape memory) (parts : ValidParts memory) where
  -- what the next slot has touched is left
  touched-left : (s : ℕ) (left : List ℕ) → Passed memory s left → is_active (slot_at memory s).state ≡ true
      → (b : ℕ) → bit (differ (slot_at memory s).tam.words memory.sam.words) b ≡ true → bit left b ≡ true
  unfolding touched xor
  touched-left s left passed i b h = ⊎_elim within past (below-or-from b memory.blocks)
    where
      touch : xor (tam_bit (slot_at memory s) b) (sam_bit memory b) ≡ true
      touch = sym (bit-differ (slot_at memory s).tam.words memory.sam.words (shape.tam s) shape.sam b) ∙ h

      within : b < memory.blocks → bit left b ≡ true
      within l =
          one-true (bit left b)
          (omega (
            arith,
            passed.counted b,
            touches_at memory b parts.touches_fit l,
            touches-within memory b memory.slots s,
            ap one (ap₂ (λ (a t : Bool). a && t) i touch),
          ))

      past : memory.blocks ≤ b → bit left b ≡ true
      past l =
          absurd
          (false≢true
          (sym (ap₂ xor (no_bits-bit memory.blocks (slot_at memory s).tam.words b (slot-below memory s parts) l)
          (no_bits-bit memory.blocks memory.sam.words b parts.sam_below l))
          ∙ touch))

  -- an idle slot is empty
  idle-empty : (s : ℕ) → is_active (slot_at memory s).state ≡ false → same_words (slot_at memory s).tam.words (replicate bitmap_words 0) ≡ true
  unfolding slot_valid
  idle-empty s i =
      let slot : Slot = slot_at memory s in
      let e : slot_valid memory.blocks slot ≡ true = all_slots-at (slot_valid memory.blocks) memory.slots s (idle-valid memory.blocks) parts.slots_valid in
      sym (ap (λ (a : Bool). cond a true (same_words slot.tam.words empty_bitmap.words)) i)
      ∙ and_second (no_bits_from memory.blocks slot.tam.words) _ e

  -- each slot is found right
  pub slot-right : (s : ℕ) (left left' : List ℕ) (r : Bool) → Passed memory s left
      → SlotTaken (slot_at memory s) left memory.sam.words r left' → r ≡ true
  slot-right s left left' r passed taken = go (is_active (slot_at memory s).state) refl
    where
      go : (a : Bool) → is_active (slot_at memory s).state ≡ a → r ≡ true
      go false i = (taken.idle i).answer ∙ idle-empty s i
      go true i =
          (taken.active i).answer
          ∙ bits_left left (differ (slot_at memory s).tam.words memory.sam.words) passed.is
          (differ-is (slot_at memory s).tam.words memory.sam.words (shape.tam s) shape.sam)
          (touched-left s left passed i)

  -- and nothing is left
  pub left-none : (left : List ℕ) → Passed memory slot_count left → same_words left (replicate bitmap_words 0) ≡ true
  left-none left passed = rw (bitmap-ext left (replicate bitmap_words 0) passed.is empty-is (λ b h. none b ∙ sym (bit-empty b))) (words_same (replicate bitmap_words 0))
    where
      none : (b : ℕ) → bit left b ≡ false
      none b =
          ⊎_elim
          (λ (l : b < memory.blocks). one-false (bit left b) (omega (arith, passed-all memory left shape passed b, touches_at memory b parts.touches_fit l)))
          (λ (l : memory.blocks ≤ b).
          one-false (bit left b)
          (omega (arith, passed-all memory left shape passed b, ap one (no-differs memory parts.sam_below parts.com_below b l))))
          (below-or-from b memory.blocks)
