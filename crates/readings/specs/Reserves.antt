-- Document 02, job 7, computed: "Each grant to it lowers the claim by the blocks granted, not below 0; a drop or revoke puts back what
-- that transaction used of it." m is 4, and no block is allocated.
use Rattle.std.specs.Prelude.{ℕ, ◌≡◌, refl, true, List, [], ◌∷◌, replicate}
use Rattle.std.proofs.Math.Bool.{xor}
use Rattle.bitmap.specs.Sizes.{max_count, blocks_in_range, count_in_range, slot_in_range}
use Rattle.bitmap.specs.Bits.{is_set, bit, word_of, words_of, bitmap_of, no_bits_from}
use Rattle.bitmap.specs.Blocks.{scan, from, is_available, available_blocks, member, all_below}
use Rattle.bitmap.specs.Extents.{adjoining, is_start, starts, distance, nearer, nearest_of, nearest}
use Rattle.bitmap.specs.Round.{round_from, wrapped, after_last}
use Rattle.bitmap.specs.Majority.{majority}
use Rattle.model_types.specs.declared.memory.Memory.{Memory}
use Rattle.model_types.specs.declared.memory.Pending.TheVariants.{Nothing}
use Rattle.model_types.specs.Answers.{answer, answer_number}
use Rattle.model_types.specs.Memory.{quiet_memory, empty_bitmap, reserve_at, reserve_of, with_reserve}
use Rattle.model_types.specs.Pending.{is_nothing}
use Rattle.model.specs.Rules.First.{first_or, first, unless_refused}
use Rattle.model.specs.Rules.Available.{available}
use Rattle.model.specs.Rules.Reserves.{total_reserved, others_reserved, drawing, put_back, used_up, reserving}
use Rattle.model.specs.Rules.Causes.{memory_invalid, nothing_pending, work_pending, slot_out_of_range, slot_active, slot_inactive, slot_precommitted, slot_not_precommitted, count_out_of_range, count_too_large, list_short, too_few_available, block_out_of_range, extent_starts, no_extent, over_reserved, reserved_for_others}
use Rattle.model.specs.Rules.Commit.{committed_sam, refreshed, committed}
use Rattle.model.specs.Rules.Rollback.{rolled_back_com, rolled_back}
use Rattle.model.specs.Rules.Calls.Start.{start_error, started, start_memory}
use Rattle.model.specs.Rules.Calls.Allocate.{allocate_error, met, first_met, taking, allocate_answer, allocate_memory}
use Rattle.model.specs.Rules.Calls.AllocateExtent.{allocate_extent_error, nearest_extent, allocate_extent_answer, allocate_extent_memory}
use Rattle.model.specs.Rules.Calls.Precommit.{precommit_error, precommitting, precommit_memory}
use Rattle.model.specs.Rules.Calls.CommitCost.{commit_cost_error, commit_cost_answer}
use Rattle.model.specs.Rules.Calls.Drop.{drop_error, drop_memory}
use Rattle.model.specs.Rules.Calls.Revoke.{revoke_error, revoke_memory}
use Rattle.model.specs.Rules.Calls.Reserve.{reserve_error, reserve_answer, reserve_memory}
use Rattle.model.specs.Rules.Touched.{touched, took, taken_blocks}
use Rattle.model.specs.Rules.Valid.{same_words, all_slots, slot_valid, touches, touches_agree, reservations_fit, drawn_fit, is_quiet, pending_valid, valid}
use Rattle.model.proofs.Laws.Rows.{same_rows, rows_same}

list : List ℕ
list = replicate max_count 9

empty4 : Memory
empty4 = quiet_memory 4 empty_bitmap Nothing

-- three of the four blocks are reserved for slot 1; then slots 1 and 2 are open
reserved : Memory
reserved = reserve_memory empty4 1 3

open12 : Memory
open12 = start_memory (start_memory reserved 1) 2

-- slot 1 has taken so many blocks
taken : ℕ → Memory
taken count = allocate_memory open12 1 count list

-- of slot 1: what is reserved for it, and what it has drawn
own : Memory → List ℕ
own memory = (reserve_at memory 1).reservation ∷ (reserve_at memory 1).drawn ∷ []

-- the numbers of a reserve, of an allocate of so many blocks, of an extent and of a commit cost
sets : Memory → ℕ → ℕ → ℕ
sets memory s reservation = answer_number (reserve_answer memory s reservation)

asks : Memory → ℕ → ℕ → ℕ
asks memory s count = answer_number (allocate_answer memory s count list)

adjoin : Memory → ℕ → ℕ → ℕ
adjoin memory s count = answer_number (allocate_extent_answer memory s count 0 list)

costs : Memory → ℕ → ℕ → ℕ
costs memory s count = answer_number (commit_cost_answer memory s count)

-- of four blocks four can be reserved, and not five (23); beside three one, and not two; in the place of three, four. No slot 8 (10), and
-- no open slot (11), before 23. Slot 2 gets one block, and not two (24), but of five 17 comes first; as an extent (22 first), and as a
-- cost. Slot 1 gets two and three; of four 24 comes, once slot 2 has a reservation too. What slot 1 has then, and has drawn: two, three,
-- four, an extent of two. After a drop, and after a revoke. With two taken slot 2 gets one, and no more then, and slot 1 gets its last
-- one. Reservations of five, and more drawn than taken, aren't valid (1)
pub reserves : List (List ℕ)
reserves =
    (sets empty4 1 4 ∷ sets empty4 1 5 ∷ sets reserved 2 1 ∷ sets reserved 2 2 ∷ sets reserved 1 4 ∷ sets reserved 1 5 ∷ [])
    ∷ (sets reserved 8 5 ∷ sets open12 1 5 ∷ [])
    ∷ (asks open12 2 1 ∷ asks open12 2 2 ∷ asks open12 2 4 ∷ asks open12 2 5 ∷ [])
    ∷ (adjoin open12 2 1 ∷ adjoin open12 2 2 ∷ adjoin open12 2 4 ∷ adjoin open12 2 5 ∷ [])
    ∷ (costs open12 2 0 ∷ costs open12 2 1 ∷ costs open12 2 2 ∷ costs open12 2 5 ∷ [])
    ∷ (asks open12 1 2 ∷ asks open12 1 3 ∷ asks open12 1 4 ∷ asks (start_memory (reserve_memory reserved 2 1) 1) 1 4 ∷ [])
    ∷ own open12
    ∷ own (taken 2)
    ∷ own (taken 3)
    ∷ own (taken 4)
    ∷ own (allocate_extent_memory open12 1 2 3 list)
    ∷ own (drop_memory (taken 2) 1)
    ∷ own (revoke_memory (precommit_memory (taken 4) 1) 1)
    ∷ own (committed (taken 2) 1)
    ∷ (asks (taken 2) 2 1 ∷ asks (allocate_memory (taken 2) 2 1 list) 2 1 ∷ asks (allocate_memory (taken 2) 2 1 list) 1 1 ∷ [])
    ∷ (sets (with_reserve empty4 1 (reserve_of 5 0)) 2 0 ∷ sets (with_reserve empty4 1 (reserve_of 0 1)) 2 0 ∷ asks (with_reserve (taken 2) 1 (reserve_of 1 3)) 1 1 ∷ [])
    ∷ []

pub found : List (List ℕ)
found =
    (0 ∷ 23 ∷ 0 ∷ 23 ∷ 0 ∷ 23 ∷ [])
    ∷ (10 ∷ 11 ∷ [])
    ∷ (0 ∷ 24 ∷ 24 ∷ 17 ∷ [])
    ∷ (0 ∷ 24 ∷ 24 ∷ 22 ∷ [])
    ∷ (0 ∷ 0 ∷ 24 ∷ 17 ∷ [])
    ∷ (0 ∷ 0 ∷ 0 ∷ 24 ∷ [])
    ∷ (3 ∷ 0 ∷ [])
    ∷ (1 ∷ 2 ∷ [])
    ∷ (0 ∷ 3 ∷ [])
    ∷ (0 ∷ 3 ∷ [])
    ∷ (1 ∷ 2 ∷ [])
    ∷ (3 ∷ 0 ∷ [])
    ∷ (3 ∷ 0 ∷ [])
    ∷ (1 ∷ 0 ∷ [])
    ∷ (0 ∷ 24 ∷ 0 ∷ [])
    ∷ (1 ∷ 1 ∷ 1 ∷ [])
    ∷ []

computed : same_rows reserves found ≡ true
unfolding same_rows reserves found list empty4 reserved open12 taken own sets asks adjoin costs xor is_set bit word_of words_of bitmap_of no_bits_from scan from is_available available_blocks member all_below adjoining is_start starts distance nearer nearest_of nearest round_from wrapped after_last majority answer is_nothing first_or first unless_refused available total_reserved others_reserved drawing put_back used_up reserving memory_invalid nothing_pending work_pending slot_out_of_range slot_active slot_inactive slot_precommitted slot_not_precommitted count_out_of_range count_too_large list_short too_few_available block_out_of_range extent_starts no_extent over_reserved reserved_for_others committed_sam refreshed committed rolled_back_com rolled_back start_error started start_memory allocate_error met first_met taking allocate_answer allocate_memory allocate_extent_error nearest_extent allocate_extent_answer allocate_extent_memory precommit_error precommitting precommit_memory commit_cost_error commit_cost_answer drop_error drop_memory revoke_error revoke_memory reserve_error reserve_answer reserve_memory touched same_words all_slots slot_valid touches touches_agree took taken_blocks reservations_fit drawn_fit is_quiet pending_valid valid blocks_in_range count_in_range slot_in_range
computed = refl

pub reserves_found : reserves ≡ found
reserves_found = rows_same reserves found computed
