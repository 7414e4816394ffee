-- Document 02, job 6, computed: "Allocate searches from the block after the last one granted, wraps round at m, and lists blocks in the
-- order met." m is 8, and block 3 is allocated.
use Rattle.std.specs.Prelude.{ℕ, ◌-◌, ◌≡◌, refl, true, List, [], ◌∷◌, replicate, take}
use Rattle.std.proofs.Math.Bool.{xor}
use Rattle.bitmap.specs.Sizes.{bitmap_words, max_count, blocks_in_range, count_in_range, slot_in_range}
use Rattle.bitmap.specs.Bits.{is_set, bit, word_of, words_of, bitmap_of, no_bits_from}
use Rattle.bitmap.specs.Blocks.{scan, from, is_available, available_blocks, member, all_below}
use Rattle.bitmap.specs.Extents.{adjoining, is_start, starts, distance, nearer, nearest_of, nearest}
use Rattle.bitmap.specs.Round.{round_from, wrapped, after_last}
use Rattle.bitmap.specs.Majority.{majority}
use Rattle.model_types.specs.declared.memory.Memory.{Memory}
use Rattle.model_types.specs.declared.memory.Pending.TheVariants.{Nothing}
use Rattle.model_types.specs.Answers.{answer, answer_number, answer_value}
use Rattle.model_types.specs.Memory.{quiet_memory, with_cursor, bitmap}
use Rattle.model_types.specs.Pending.{is_nothing}
use Rattle.model.specs.Rules.First.{first_or, first, unless_refused}
use Rattle.model.specs.Rules.Available.{available}
use Rattle.model.specs.Rules.Reserves.{total_reserved, others_reserved, drawing, put_back}
use Rattle.model.specs.Rules.Causes.{memory_invalid, nothing_pending, work_pending, slot_out_of_range, slot_active, slot_inactive, slot_precommitted, count_out_of_range, list_short, too_few_available, block_out_of_range, extent_starts, no_extent, reserved_for_others}
use Rattle.model.specs.Rules.Rollback.{rolled_back_com, rolled_back}
use Rattle.model.specs.Rules.Calls.Start.{start_error, started, start_memory}
use Rattle.model.specs.Rules.Calls.Allocate.{allocate_error, met, first_met, taking, allocate_answer, allocate_memory, allocate_list}
use Rattle.model.specs.Rules.Calls.AllocateExtent.{allocate_extent_error, nearest_extent, allocate_extent_answer, allocate_extent_memory, allocate_extent_list}
use Rattle.model.specs.Rules.Calls.Drop.{drop_error, drop_memory}
use Rattle.model.specs.Rules.Touched.{touched, took, taken_blocks}
use Rattle.model.specs.Rules.Valid.{same_words, all_slots, slot_valid, touches, touches_agree, reservations_fit, drawn_fit, is_quiet, pending_valid, valid}
use Rattle.model.proofs.Laws.Rows.{same_rows, rows_same}

list : List ℕ
list = replicate max_count 9

-- slot 1 is open
open1 : Memory
open1 = start_memory (quiet_memory 8 (bitmap (8 ∷ replicate (bitmap_words - 1) 0)) Nothing) 1

-- to be searched from this block on
from1 : ℕ → Memory
from1 cursor = with_cursor open1 cursor

-- the number, the value and the cursor after an allocate of so many blocks, and the blocks
asked : Memory → ℕ → List ℕ
asked memory count =
    answer_number (allocate_answer memory 1 count list)
    ∷ answer_value (allocate_answer memory 1 count list)
    ∷ (allocate_memory memory 1 count list).cursor
    ∷ take count (allocate_list memory 1 count list)

-- after three blocks
after3 : Memory
after3 = allocate_memory open1 1 3 list

-- after an extent of the last two blocks
behind : Memory
behind = allocate_extent_memory open1 1 2 6 list

-- from block 0 on: the lowest. Behind them two more, and, those three dropped, still from there on, and round. From the last block on:
-- one, and then 0 again; two, over the end. An extent of the last two blocks, listed rising; behind it, 0. All seven, from block
-- 4 on; one more isn't there (17). A cursor of m isn't valid (1), nor is a larger one
pub turns : List (List ℕ)
turns =
    asked open1 3
    ∷ asked after3 2
    ∷ asked (start_memory (drop_memory after3 1) 1) 5
    ∷ asked (from1 7) 1
    ∷ asked (from1 7) 2
    ∷ take 2 (allocate_extent_list (from1 7) 1 2 6 list)
    ∷ asked behind 1
    ∷ asked (from1 4) 7
    ∷ take 3 (asked (from1 4) 8)
    ∷ take 3 (asked (from1 8) 1)
    ∷ take 3 (asked (from1 4294967295) 1)
    ∷ []

pub found : List (List ℕ)
found =
    (0 ∷ 0 ∷ 3 ∷ 0 ∷ 1 ∷ 2 ∷ [])
    ∷ (0 ∷ 4 ∷ 6 ∷ 4 ∷ 5 ∷ [])
    ∷ (0 ∷ 4 ∷ 1 ∷ 4 ∷ 5 ∷ 6 ∷ 7 ∷ 0 ∷ [])
    ∷ (0 ∷ 7 ∷ 0 ∷ 7 ∷ [])
    ∷ (0 ∷ 7 ∷ 1 ∷ 7 ∷ 0 ∷ [])
    ∷ (6 ∷ 7 ∷ [])
    ∷ (0 ∷ 0 ∷ 1 ∷ 0 ∷ [])
    ∷ (0 ∷ 4 ∷ 3 ∷ 4 ∷ 5 ∷ 6 ∷ 7 ∷ 0 ∷ 1 ∷ 2 ∷ [])
    ∷ (17 ∷ 0 ∷ 4 ∷ [])
    ∷ (1 ∷ 0 ∷ 8 ∷ [])
    ∷ (1 ∷ 0 ∷ 4294967295 ∷ [])
    ∷ []

computed : same_rows turns found ≡ true
unfolding same_rows turns found list open1 from1 asked after3 behind xor is_set bit word_of words_of bitmap_of no_bits_from scan from is_available available_blocks member all_below adjoining is_start starts distance nearer nearest_of nearest round_from wrapped after_last majority answer is_nothing first_or first unless_refused memory_invalid nothing_pending work_pending slot_out_of_range slot_active slot_inactive slot_precommitted count_out_of_range list_short available too_few_available block_out_of_range extent_starts no_extent rolled_back_com rolled_back start_error started start_memory allocate_error met first_met taking allocate_answer allocate_memory allocate_list allocate_extent_error nearest_extent allocate_extent_answer allocate_extent_memory allocate_extent_list drop_error drop_memory touched same_words all_slots slot_valid touches touches_agree took taken_blocks reservations_fit drawn_fit is_quiet pending_valid valid blocks_in_range count_in_range slot_in_range total_reserved others_reserved drawing put_back reserved_for_others
computed = refl

pub turns_found : turns ≡ found
turns_found = rows_same turns found computed
