-- Status. "allocated is the number of ones in SAM, .. and the seats not idle are counted." In the place of a free figure
-- (document 02, job 1) "four counts: grantable (SAM 0, COM 0), being taken (0, 1), being released (1, 0), held (1, 1)". The
-- memory stays.
use Rattle.std.specs.Prelude.{ℕ, ◌+◌, cond, List, [], ◌∷◌, length}
use Rattle.std.proofs.Math.Option.{Option}
use Rattle.bitmap.specs.Blocks.{allocated_blocks, allocating_blocks, freeing_blocks, held_blocks}
use Rattle.model.specs.Types.{Error, Counts, Slot, Memory, MemoryInvalid, Answer}
use Rattle.model.specs.Rules.First.{first, ◌⇒◌}
use Rattle.model_types.specs.Answers.{answer}
use Rattle.model_types.specs.Memory.{is_active}
use Rattle.model.specs.Rules.Available.{available}
use Rattle.model.specs.Rules.Valid.{valid}
use Rattle.model.specs.Rules.Causes.{memory_invalid}

unfoldable pub status_error : Memory → Option Error
status_error memory = first (memory_invalid (valid memory) ⇒ MemoryInvalid ∷ [])

-- the allocated blocks of a memory
unfoldable pub allocated : Memory → List ℕ
allocated memory = allocated_blocks memory.blocks memory.sam.words

unfoldable pub active_slots : List Slot → ℕ
active_slots [] = 0
active_slots (slot ∷ slots) = cond (is_active slot.state) 1 0 + active_slots slots

unfoldable pub counts : Memory → Counts
counts memory =
    record {
      allocated = length (allocated memory);
      available = length (available memory);
      allocating = length (allocating_blocks memory.blocks memory.sam.words memory.com.words);
      freeing = length (freeing_blocks memory.blocks memory.sam.words memory.com.words);
      held = length (held_blocks memory.blocks memory.sam.words memory.com.words);
      active = active_slots memory.slots;
    }

unfoldable pub status_answer : Memory → Answer Counts
status_answer memory = answer (status_error memory) (counts memory)
