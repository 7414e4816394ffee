-- Allocate. Document 01: "the n lowest blocks with SAM 0 and COM 0 (grantable) get 1 in COM and TAM. Their numbers go to the first
-- n places of the lent list, rising; later places stay." Document 02, job 6: "Allocate searches from the block after the last one
-- granted, wraps round at m, and lists blocks in the order met", "Where granted blocks were the lowest they are now the first met".
use Rattle.std.specs.Prelude.{ℕ, ◌||◌, List, ◌++◌, length, take, drop, get_or}
use Rattle.std.proofs.Math.Option.{Option}
use Rattle.bitmap.specs.Blocks.{is_available, member}
use Rattle.bitmap.specs.Round.{round_from, after_last}
use Rattle.model.specs.Types.{Error, Memory, Answer}
use Rattle.model.specs.Rules.First.{first, unless_refused}
use Rattle.model_types.specs.Answers.{answer}
use Rattle.model_types.specs.Memory.{with_cursor, with_com, with_slot, with_reserve, with_tam, slot_at, reserve_at, com_bit, tam_bit, volume_bitmap}
use Rattle.model.specs.Rules.Reserves.{others_reserved, drawing}
use Rattle.model.specs.Rules.Causes.{of_available}
use Rattle.model.specs.Rules.CauseLists.{open_causes, of_slot, grant_causes}

-- 1, 8, 10, 12, 13; 15, 16, 17; and, document 02, job 7, 24 "last"
unfoldable pub allocate_error : Memory → ℕ → ℕ → List ℕ → Option Error
allocate_error memory s count list =
    first (of_slot open_causes memory s ++ of_available grant_causes memory count list (others_reserved memory.reserves s))

-- the available blocks in the order met, from the cursor on
unfoldable pub met : Memory → List ℕ
met memory = round_from (is_available memory.sam.words memory.com.words) memory.blocks memory.cursor

-- the first n of them
unfoldable pub first_met : Memory → ℕ → List ℕ
first_met memory count = take count (met memory)

-- the memory with these blocks at 1 in COM and in the slot's TAM, to be searched from the block after the last one: "0 .. once block
-- m less 1 was the last granted"; the slot's reservation is drawn on by so many
unfoldable pub taking : Memory → ℕ → List ℕ → Memory
taking memory s blocks =
    with_reserve
    (with_cursor
    (with_slot
    (with_com memory (volume_bitmap memory (λ b. member b blocks || com_bit memory b)))
    s
    (with_tam (slot_at memory s) (volume_bitmap memory (λ b. member b blocks || tam_bit (slot_at memory s) b))))
    (after_last memory.blocks memory.cursor blocks))
    s
    (drawing (reserve_at memory s) (length blocks))

unfoldable pub allocate_answer : Memory → ℕ → ℕ → List ℕ → Answer ℕ
allocate_answer memory s count list = answer (allocate_error memory s count list) (get_or (first_met memory count) 0 0)

unfoldable pub allocate_memory : Memory → ℕ → ℕ → List ℕ → Memory
allocate_memory memory s count list = unless_refused (allocate_error memory s count list) (taking memory s (first_met memory count)) memory

unfoldable pub allocate_list : Memory → ℕ → ℕ → List ℕ → List ℕ
allocate_list memory s count list = unless_refused (allocate_error memory s count list) (first_met memory count ++ drop count list) list
