-- What is reserved and drawn in a memory whose bitmaps are valid, and that its four tests make it valid.
use Prim.Native.Nat.{ℕ, ◌≤◌, ◌<◌}
use native.Mathlib.Omega.{arith}
use mathlib.Core.Path.{◌≡◌, refl, sym, ap, ◌∙◌}
use mathlib.Core.Bool.{Bool, true, false, not, ◌&&◌, and_comm}
use lib.ListN.{length, get_or}
use lib.Dec.{leb}
use borrow.Author.Tests.{leb-true, le-leb}
use Rattle.std.proofs.lemmas.List.{get_or_default}
use Rattle.bitmap.specs.Sizes.{max_blocks, slot_count}
use Rattle.bitmap.specs.Bits.{bit}
use Rattle.bitmap.specs.Blocks.{is_allocating, allocating_blocks}
use Rattle.bitmap.proofs.Laws.Bits.{no_bits-bit}
use Rattle.bitmap.proofs.Laws.Blocks.{all_below-at, all_below-all, from-same}
use Rattle.bitmap.proofs.Laws.Count.{count_past}
use Rattle.model_types.specs.declared.memory.Slot.{Slot}
use Rattle.model_types.specs.declared.memory.Reserve.{Reserve}
use Rattle.model_types.specs.declared.memory.Pending.{Pending}
use Rattle.model_types.specs.declared.memory.Memory.{Memory}
use Rattle.model_types.specs.Memory.{idle_slot, slot_at, reserve_at, sam_bit, no_reserve, no_reserves, with_reserves, with_pending}
use Rattle.model.specs.Rules.Available.{available}
use Rattle.model.specs.Rules.Touched.{touched, took, taken_blocks}
use Rattle.model.specs.Rules.Valid.{reservations_fit, drawn_fit, pending_valid, valid}
use Rattle.model.proofs.Laws.Disk.Writes.{and_both, and_first, and_second}
use Rattle.model.proofs.Laws.Memory.Valid.{ReservesFit, valid-parts, parts-valid, slot-below, fit_parts, parts-fit}
use Rattle.model.proofs.Laws.Memory.Fit.{took-is, none-fits}
use Rattle.model.proofs.Laws.Touched.Touches.{reserves-valid, pending_fits}
use Rattle.validity.specs.Checked.{bare}
use Rattle.validity.specs.Fit.{drawn_fits_at, drawn_fits}
use Rattle.model_types.specs.Shape.{HasShape}
use Rattle.validity.proofs.Laws.Slots.{bool-ext, not-true-false}

module _ (memory : Memory) where
  -- what a slot took, counted in whole bitmaps: from the block count on SAM and TAM have no bits
  pub taken-whole : valid (bare memory) ≡ true → (s : ℕ)
      → length (allocating_blocks max_blocks memory.sam.words (slot_at memory s).tam.words) ≡ length (taken_blocks memory s)
  unfolding allocating_blocks is_allocating taken_blocks
  taken-whole maps s =
      let parts = valid-parts (bare memory) maps in
      count_past _ memory.blocks max_blocks parts.few_blocks
      (λ b h.
      and_comm (not (sam_bit memory b)) (bit (slot_at memory s).tam.words b)
      ∙ ap (λ (t : Bool). t && not (sam_bit memory b)) (no_bits-bit memory.blocks (slot_at memory s).tam.words b (slot-below (bare memory) s parts) h))
      ∙ ap {B = ℕ} length
      (from-same _ (took memory (slot_at memory s)) memory.blocks 0
      (λ b l h. and_comm (not (sam_bit memory b)) (bit (slot_at memory s).tam.words b) ∙ sym (took-is memory (slot_at memory s) b)))

  -- so what is drawn fits in whole bitmaps just if it fits in the volume
  pub drawn_whole : valid (bare memory) ≡ true → drawn_fits memory.sam.words memory.slots memory.reserves ≡ drawn_fit memory
  unfolding drawn_fits drawn_fit
  drawn_whole maps =
      bool-ext _ _
      (λ h. all_below-all slot_count _ (λ s l. ap (leb (reserve_at memory s).drawn) (sym (taken-whole maps s)) ∙ all_below-at slot_count _ s h l))
      (λ h. all_below-all slot_count _ (λ s l. ap (leb (reserve_at memory s).drawn) (taken-whole maps s) ∙ all_below-at slot_count _ s h l))

  -- whether slot s has drawn no more than it took
  abbrev drawn_at : ℕ → Bool
  drawn_at = drawn_fits_at memory.sam.words memory.slots memory.reserves

  module _ (s : ℕ) (tally : ℕ) (e : Slot) (d : Reserve) (shape : HasShape memory) (below : s < slot_count)
      (counted : tally ≡ length (allocating_blocks max_blocks memory.sam.words (get_or memory.slots s e).tam.words)) where
    taken-is : tally ≡ length (allocating_blocks max_blocks memory.sam.words (slot_at memory s).tam.words)
    taken-is = rw (get_or_default memory.slots s e idle_slot (omega (arith, shape.slots))) at counted

    drawn-is : (get_or memory.reserves s d).drawn ≡ (reserve_at memory s).drawn
    drawn-is = ap (λ (r : Reserve). r.drawn) (get_or_default memory.reserves s d no_reserve (omega (arith, shape.reserves)))

    pub drew_more : tally < (get_or memory.reserves s d).drawn → false ≡ drawn_fits memory.sam.words memory.slots memory.reserves
    unfolding drawn_fits
    drew_more h =
        not-true-false _ (λ fit. omega (arith, leb-true _ _ (all_below-at slot_count drawn_at s fit below), taken-is, drawn-is, h))

    pub drew_enough : (get_or memory.reserves s d).drawn ≤ tally → drawn_at s ≡ true
    drew_enough h = le-leb (reserve_at memory s).drawn _ (omega (arith, taken-is, drawn-is, h))

  -- a slot that has drawn nothing
  pub drew_none : (s : ℕ) (d : Reserve) → HasShape memory → s < slot_count → (get_or memory.reserves s d).drawn ≡ 0 → drawn_at s ≡ true
  drew_none s d shape below h =
      let reserve : get_or memory.reserves s d ≡ reserve_at memory s = get_or_default memory.reserves s d no_reserve (omega (arith, shape.reserves)) in
      le-leb (reserve_at memory s).drawn _ (omega (arith, ap (λ (r : Reserve). r.drawn) reserve, h))

  pub drawn_all : ((s : ℕ) → s < slot_count → drawn_at s ≡ true) → true ≡ drawn_fits memory.sam.words memory.slots memory.reserves
  unfolding drawn_fits
  drawn_all each = sym (all_below-all slot_count drawn_at each)

  -- what fits doesn't go by the pending work
  bare-fit : ReservesFit memory → ReservesFit (with_reserves (bare memory) memory.reserves)
  unfolding available taken_blocks took touched
  bare-fit fit = record { total = fit.total; drawn = fit.drawn }

  -- a memory is valid if its bitmaps are, and what is reserved, what is drawn and its pending work fit
  pub valid-four : valid memory ≡ (valid (bare memory) && reservations_fit memory && drawn_fit memory && pending_valid memory memory.pending)
  unfolding pending_valid reservations_fit drawn_fit
  valid-four =
      bool-ext (valid memory) (valid (bare memory) && reservations_fit memory && drawn_fit memory && pending_valid memory memory.pending)
      (λ h.
      let parts = valid-parts memory h in
      let fit = parts-fit memory parts.reserves_fit in
      and_both (and_both (and_both (parts-valid (bare memory) (reserves-valid quiet no_reserves (pending_fits memory Pending.Nothing parts refl) refl (none-fits (bare memory) refl))) fit.0) fit.1) parts.pending_fits)
      (λ h.
      let e2 = and_first _ (pending_valid memory memory.pending) h in
      let e1 = and_first _ (drawn_fit memory) e2 in
      let fit = fit_parts memory (and_second (valid (bare memory)) _ e1) (and_second (valid (bare memory) && reservations_fit memory) _ e2) in
      parts-valid memory
      (pending_fits quiet memory.pending
      (reserves-valid (bare memory) memory.reserves (valid-parts (bare memory) (and_first _ (reservations_fit memory) e1)) refl (bare-fit fit))
      (and_second (valid (bare memory) && reservations_fit memory && drawn_fit memory) _ h)))
    where
      quiet : Memory
      quiet = with_pending memory Pending.Nothing
