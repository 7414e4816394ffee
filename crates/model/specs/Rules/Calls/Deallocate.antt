-- Deallocate. "one block with SAM 1 and COM 1: it gets 0 in COM and TAM."
use Rattle.std.specs.Prelude.{ℕ, not, ◌&&◌, ◌++◌, eqb}
use Rattle.std.proofs.Math.Option.{Option}
use Rattle.model.specs.Types.{Error, Memory, Answer, ⊤}
use Rattle.model.specs.Rules.First.{first, unless_refused}
use Rattle.model_types.specs.Answers.{answer}
use Rattle.model_types.specs.Memory.{with_com, with_slot, with_tam, slot_at, com_bit, tam_bit, volume_bitmap}
use Rattle.model.specs.Rules.Causes.{of_volume}
use Rattle.model.specs.Rules.CauseLists.{open_causes, of_slot, block_causes}

-- 1, 8, 10, 12, 13; 18, 19 and 20
unfoldable pub deallocate_error : Memory → ℕ → ℕ → Option Error
deallocate_error memory s block = first (of_slot open_causes memory s ++ of_volume block_causes memory block)

-- the memory with this block at 0 in COM and in the slot's TAM
unfoldable pub freeing : Memory → ℕ → ℕ → Memory
freeing memory s block =
    with_slot
    (with_com memory (volume_bitmap memory (λ b. not (eqb b block) && com_bit memory b)))
    s
    (with_tam (slot_at memory s) (volume_bitmap memory (λ b. not (eqb b block) && tam_bit (slot_at memory s) b)))

unfoldable pub deallocate_answer : Memory → ℕ → ℕ → Answer ⊤
deallocate_answer memory s block = answer (deallocate_error memory s block) tt

unfoldable pub deallocate_memory : Memory → ℕ → ℕ → Memory
deallocate_memory memory s block = unless_refused (deallocate_error memory s block) (freeing memory s block) memory
