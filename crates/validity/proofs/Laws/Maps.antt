-- The bitmaps against `valid`: refused where a test fails, and where nothing is left the memory is valid but for what is
-- reserved and its pending work.
use Prim.Native.Nat.{ℕ, ◌≤◌, ◌<◌}
use native.Mathlib.Omega.{arith}
use mathlib.Core.Path.{◌≡◌, refl, sym, ap, ap₂, ◌∙◌}
use mathlib.Core.Bool.{Bool, true, false, cond, xor, ◌&&◌, false≢true}
use mathlib.Core.List.{List}
use lib.ListN.{length, replicate}
use lib.Dec.{ltb}
use borrow.Author.Tests.{eq-eqb, ltb-true}
use Rattle.bitmap.specs.Sizes.{bitmap_words, slot_count, blocks_in_range}
use Rattle.bitmap.specs.Bits.{bit, no_bits_from}
use Rattle.bitmap.proofs.Laws.Bits.{bit-empty, no_bits-bit, bits-no_bits}
use Rattle.bitmap.proofs.Laws.Blocks.{all_below-all}
use Rattle.model_types.specs.declared.memory.Slot.{Slot}
use Rattle.model_types.specs.declared.memory.Pending.{Pending}
use Rattle.model_types.specs.declared.memory.Memory.{Memory}
use Rattle.model_types.specs.Memory.{slot_at, is_active, empty_bitmap, no_reserves, tam_bit}
use Rattle.model.specs.Rules.Touched.{touched}
use Rattle.model.specs.Rules.Valid.{same_words, all_slots, slot_valid, touches, touches_agree, reservations_fit, drawn_fit, pending_valid, valid}
use Rattle.model.proofs.Laws.Disk.Writes.{and_both, and_first, and_second, same-words, words_same}
use Rattle.model.proofs.Laws.Disk.Parts.{in_range-low, in_range-high}
use Rattle.model.proofs.Laws.Memory.Valid.{ValidParts, head_valid, valid-parts, parts-valid, touches_block, touches-one, no_bits-empty}
use Rattle.model.proofs.Laws.Memory.Fit.{none-fits}
use Rattle.model.proofs.Laws.Touched.Touches.{one, differs, active-valid}
use Rattle.model_types.specs.Shape.{HasShape}
use Rattle.validity.specs.Checked.{volume_valid}
use Rattle.validity.proofs.Laws.Slots.{bool-ext, not-true-false, all_slots-all}
use Rattle.validity.proofs.Laws.Passed.{Passed, SlotTaken}
use Rattle.validity.proofs.Laws.Right.{no-differs, passed-all, slot-right, left-none}

-- ---- refused

pub volume-wrong : (memory : Memory) → volume_valid memory ≡ false → false ≡ valid memory
unfolding valid
volume-wrong memory e =
    sym
    (ap
    (λ (t : Bool).
    t
    && all_slots (slot_valid memory.blocks) memory.slots
    && touches_agree memory
    && reservations_fit memory
    && drawn_fit memory
    && pending_valid memory memory.pending)
    e)

module _ (memory : Memory) (shape : HasShape memory) where
  pub slot-wrong : (s : ℕ) (left left' : List ℕ) → Passed memory s left
      → SlotTaken (slot_at memory s) left memory.sam.words false left' → false ≡ valid memory
  slot-wrong s left left' passed taken =
      not-true-false (valid memory) (λ h. false≢true (slot-right memory shape (valid-parts memory h) s left left' false passed taken))

  -- ---- all slots are passed

  module _ (left : List ℕ) (quiet : memory.pending ≡ Pending.Nothing) (none-reserved : memory.reserves ≡ no_reserves) (volume : volume_valid memory ≡ true) (passed : Passed memory slot_count left)
      (none : same_words left (replicate bitmap_words 0) ≡ true) where
    in_head : head_valid memory ≡ true
    in_head = and_first _ (no_bits_from memory.blocks memory.sam.words) (and_first _ (no_bits_from memory.blocks memory.com.words) volume)

    in_range : blocks_in_range memory.blocks ≡ true
    in_range = and_first _ (ltb memory.cursor memory.blocks) in_head

    sam_none : no_bits_from memory.blocks memory.sam.words ≡ true
    sam_none = and_second (head_valid memory) _ (and_first _ (no_bits_from memory.blocks memory.com.words) volume)

    com_none : no_bits_from memory.blocks memory.com.words ≡ true
    com_none = and_second (head_valid memory && no_bits_from memory.blocks memory.sam.words) _ volume

    -- each block is touched just if COM differs from SAM
    exact : (b : ℕ) → touches memory b memory.slots ≡ one (differs memory b)
    exact b =
        omega (
          arith,
          passed-all memory left shape passed b,
          ap one (ap (λ (words : List ℕ). bit words b) (same-words left (replicate bitmap_words 0) none) ∙ bit-empty b),
        )

    -- so none from m on is touched
    active-below : (s : ℕ) → is_active (slot_at memory s).state ≡ true → no_bits_from memory.blocks (slot_at memory s).tam.words ≡ true
    unfolding touched xor
    active-below s i = bits-no_bits memory.blocks (slot_at memory s).tam.words (shape.tam s) (λ b l k. go b l (tam_bit (slot_at memory s) b) refl)
      where
        go : (b : ℕ) → memory.blocks ≤ b → (t : Bool) → tam_bit (slot_at memory s) b ≡ t → t ≡ false
        go b l false e = refl
        go b l true e =
            let touch : touches_block memory (slot_at memory s) b ≡ true =
            ap₂ ◌&&◌ i (ap₂ xor e (no_bits-bit memory.blocks memory.sam.words b sam_none l)) in
            absurd (omega (arith, exact b, ap one (no-differs memory sam_none com_none b l), touches-one memory b memory.slots s touch))

    slot-valid : (s : ℕ) → s < length memory.slots → slot_valid memory.blocks (slot_at memory s) ≡ true
    unfolding slot_valid
    slot-valid s l = go (is_active (slot_at memory s).state) refl
      where
        slot : Slot
        slot = slot_at memory s

        go : (a : Bool) → is_active slot.state ≡ a → slot_valid memory.blocks slot ≡ true
        go true i = active-valid memory.blocks slot i (active-below s i)
        go false i =
            let empty : slot.tam.words ≡ replicate bitmap_words 0 = passed.empty s (omega (arith, shape.slots)) i in
            and_both (ap (no_bits_from memory.blocks) empty ∙ no_bits-empty memory.blocks)
            (ap (λ (a : Bool). cond a true (same_words slot.tam.words empty_bitmap.words)) i
            ∙ ap (λ (words : List ℕ). same_words words empty_bitmap.words) empty
            ∙ words_same empty_bitmap.words)

    maps-parts : ValidParts memory
    unfolding touches_agree pending_valid
    maps-parts =
        record {
          some_blocks = in_range-low memory.blocks in_range;
          few_blocks = in_range-high memory.blocks in_range;
          cursor_below = ltb-true memory.cursor memory.blocks (and_second (blocks_in_range memory.blocks) _ in_head);
          sam_below = sam_none;
          com_below = com_none;
          slots_valid = all_slots-all (slot_valid memory.blocks) memory.slots slot-valid;
          touches_fit = all_below-all memory.blocks _ (λ b l. eq-eqb (touches memory b memory.slots) (one (differs memory b)) (exact b));
          reserves_fit = none-fits memory none-reserved;
          pending_fits = ap (pending_valid memory) quiet;
        }

  -- what is left decides
  pub left-decides : (left : List ℕ) (r : Bool) → memory.pending ≡ Pending.Nothing → memory.reserves ≡ no_reserves → volume_valid memory ≡ true → Passed memory slot_count left
      → r ≡ same_words left (replicate bitmap_words 0) → r ≡ valid memory
  left-decides left r quiet none-reserved volume passed e =
      bool-ext r (valid memory)
      (λ h. parts-valid memory (maps-parts left quiet none-reserved volume passed (sym e ∙ h)))
      (λ h. e ∙ left-none memory shape (valid-parts memory h) left passed)
