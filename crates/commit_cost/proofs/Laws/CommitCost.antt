-- Commit cost: its own causes, behind those of an open slot, and the blocks that its slot has touched, counted over whole bitmaps.
use Prim.Native.Nat.{ℕ, ◌+◌, ◌^◌, ◌≤◌, ◌<◌}
use native.Mathlib.Omega.{arith}
use mathlib.Core.Path.{◌≡◌, sym, ap, ap₂, ◌∙◌}
use mathlib.Core.Bool.{xor}
use mathlib.Core.List.{List}
use lib.ListN.{length}
use Rattle.bitmap.specs.Sizes.{max_blocks, max_count}
use Rattle.bitmap.proofs.Laws.Bits.{no_bits-bit}
use Rattle.bitmap.proofs.Laws.Blocks.{from-length}
use Rattle.bitmap.proofs.Laws.Count.{count_past}
use Rattle.counting.specs.Count.{differing, count_differing}
use Rattle.model_types.specs.declared.memory.Slot.{Slot}
use Rattle.model_types.specs.declared.memory.Memory.{Memory}
use Rattle.model_types.specs.Memory.{slot_at, volume_words}
use Rattle.model.specs.Rules.First.{first}
use Rattle.model.specs.Rules.Touched.{touched, touched_blocks}
use Rattle.model.specs.Rules.Available.{available}
use Rattle.model.specs.Rules.CauseLists.{open_causes, of_slot, cost_causes}
use Rattle.model.specs.Rules.Reserves.{others_reserved}
use Rattle.model.specs.Rules.Calls.Precommit.{precommit_error}
use Rattle.model.specs.Rules.Calls.CommitCost.{commit_cost_error, cost_for, commit_cost}
use Rattle.model.proofs.Laws.Memory.Valid.{ValidParts, slot-below}
use Rattle.model.proofs.Laws.Calls.Turns.{none-before}
use Rattle.verdicts.specs.declared.ready.Ready.{Ready}
use Rattle.verdicts.proofs.Laws.Ready.{Passed}

module _ (memory : Memory) (s count : ℕ) where
  -- behind those of an open slot, which are precommit's, what is available and what is reserved for the others decide
  pub error-is : {ready : Ready} {counted kept : ℕ} → Passed memory s (precommit_error memory s) ready
      → counted ≡ length (available memory)
      → kept ≡ others_reserved memory.reserves ready.at
      → first (cost_causes counted count kept) ≡ commit_cost_error memory s count
  unfolding precommit_error commit_cost_error
  error-is told e f =
      ap₂ (λ (n m : ℕ). first (cost_causes n count m)) e (f ∙ ap (others_reserved memory.reserves) told.at-is)
      ∙ sym (none-before (of_slot open_causes memory s) _ told.none-found)

  module _ (parts : ValidParts memory) where
    -- t: the blocks of whole bitmaps are those below m, since no bitmap has bits from m on
    touched-is : count_differing (slot_at memory s).tam.words memory.sam.words ≡ length (touched_blocks memory s)
    unfolding touched_blocks touched xor
    touched-is =
        count_past (differing (slot_at memory s).tam.words memory.sam.words) memory.blocks max_blocks parts.few_blocks
        (λ b h.
        ap₂ xor
        (no_bits-bit memory.blocks (slot_at memory s).tam.words b (slot-below memory s parts) h)
        (no_bits-bit memory.blocks memory.sam.words b parts.sam_below h))

    -- so what is told of them is the cost
    pub cost-is : {r words blocks : ℕ} (own : Slot) → own ≡ slot_at memory s
        → blocks ≡ count_differing own.tam.words memory.sam.words
        → words ≡ volume_words memory
        → r ≡ cost_for words (blocks + count)
        → r ≡ commit_cost memory s count
    unfolding commit_cost
    cost-is own read counted w e = rw (e, w, counted, read, touched-is)

-- t and the count fit a word
pub few-touched : {blocks : ℕ} (left right : List ℕ) (count : ℕ) → blocks ≡ count_differing left right → count ≤ max_count → blocks + count < 2 ^ 32
few-touched left right count e h = omega (arith, e, from-length (differing left right) max_blocks 0)
