-- Deallocate: its error by the causes that it tests last, and what it leaves.
use Prim.Native.Nat.{ℕ, ◌<◌}
use native.Mathlib.Omega.{arith}
use mathlib.Core.Path.{◌≡◌, sym, ap, ◌∙◌}
use mathlib.Core.Bool.{not, ◌&&◌}
use mathlib.Core.List.{List}
use mathlib.Core.Option.{Option}
use lib.Dec.{eqb}
use Rattle.std.specs.Prelude.{⊤}
use Rattle.bitmap.specs.Sizes.{max_blocks}
use Rattle.bitmap.specs.Bits.{bitmap_of}
use Rattle.bitops.specs.Block.{clear_bit}
use Rattle.bitops.proofs.Laws.Block.{clear-bitmap}
use Rattle.model.specs.Types.{Error, Answer}
use Rattle.model_types.specs.declared.memory.Slot.{Slot}
use Rattle.model_types.specs.declared.memory.Memory.{Memory}
use Rattle.model_types.specs.Answers.{answer}
use Rattle.model_types.specs.Memory.{bitmap, with_com, with_slot, with_tam, slot_at, tam_bit}
use Rattle.model.specs.Rules.First.{first}
use Rattle.model.specs.Rules.Causes.{of_volume}
use Rattle.model.specs.Rules.CauseLists.{open_causes, of_slot, block_causes}
use Rattle.model.specs.Rules.Calls.Precommit.{precommit_error}
use Rattle.model.specs.Rules.Calls.Deallocate.{deallocate_error, freeing}
use Rattle.model.proofs.Laws.Calls.Accepted.{DeallocateAccepted}
use Rattle.model.proofs.Laws.Calls.Turns.{none-before}
use Rattle.model.proofs.Laws.Memory.Valid.{ValidParts, valid-parts, slot-below}
use Rattle.model_types.specs.Shape.{HasShape}
use Rattle.verdicts.specs.declared.ready.Ready.{Ready}
use Rattle.verdicts.proofs.Laws.Ready.{Passed}

module _ (memory : Memory) (s b : ℕ) where
  -- behind an open slot's causes its own decide
  pub block-decides : {ready : Ready} {r : Answer ⊤} → Passed memory s (precommit_error memory s) ready
      → r ≡ answer (first (of_volume block_causes memory b)) tt → r ≡ answer (deallocate_error memory s b) tt
  unfolding precommit_error deallocate_error
  block-decides told e =
      e ∙ sym (ap (λ (found : Option Error). answer {A = ⊤} found tt) (none-before (of_slot open_causes memory s) _ told.none-found))

  module _ (told : DeallocateAccepted memory s b) where
    parts : ValidParts memory
    parts = valid-parts memory told.ready.is_valid

    -- its block is one of a bitmap
    pub fits : b < max_blocks
    fits = omega (arith, told.block-below, parts.few_blocks)

    -- the block cleared in COM, and in the TAM of the slot that was read
    pub freed : {at : ℕ} {own : Slot} {«com» tam : List ℕ} → HasShape memory → at ≡ s → own ≡ slot_at memory s
        → «com» ≡ clear_bit memory.com.words b → tam ≡ clear_bit own.tam.words b
        → with_slot (with_com memory (bitmap «com»)) at (with_tam own (bitmap tam)) ≡ freeing memory s b
    unfolding freeing
    freed {tam = tam} shape at-is own-is com-is tam-is =
        let cleared = clear-bitmap memory.blocks memory.com.words b parts.few_blocks told.block-below shape.«com» parts.com_below in
        let owned : tam ≡ bitmap_of memory.blocks (λ x. not (eqb x b) && tam_bit (slot_at memory s) x) =
        tam-is
        ∙ ap (λ (x : Slot). clear_bit x.tam.words b) own-is
        ∙ clear-bitmap memory.blocks (slot_at memory s).tam.words b parts.few_blocks told.block-below (shape.tam s) (slot-below memory s parts) in
        rw (at-is, com-is, cleared, own-is, owned)
