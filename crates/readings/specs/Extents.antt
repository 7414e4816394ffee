-- Document 02, job 4, computed: "n adjoining grantable blocks (1 to 64) whose first block is nearest to a named block, the lower one
-- at equal distance." m is 70, and blocks 10 to 19 and 30 to 60 are allocated: extents lie in 0 to 9, 20 to 29 and 61 to 69.
use Rattle.std.specs.Prelude.{ℕ, ◌-◌, ◌≡◌, refl, true, List, [], ◌∷◌, replicate}
use Rattle.std.proofs.Math.Bool.{xor}
use Rattle.bitmap.specs.Sizes.{bitmap_words, max_count, blocks_in_range, count_in_range, slot_in_range}
use Rattle.bitmap.specs.Bits.{is_set, bit, word_of, words_of, bitmap_of, no_bits_from}
use Rattle.bitmap.specs.Blocks.{scan, from, is_available, available_blocks, member, all_below}
use Rattle.bitmap.specs.Extents.{adjoining, is_start, starts, distance, nearer, nearest_of, nearest}
use Rattle.bitmap.specs.Round.{wrapped, after_last}
use Rattle.model_types.specs.declared.memory.Memory.{Memory}
use Rattle.model_types.specs.declared.memory.Pending.TheVariants.{Nothing}
use Rattle.model_types.specs.Answers.{answer, answer_number, answer_value}
use Rattle.model_types.specs.Memory.{quiet_memory, bitmap}
use Rattle.model_types.specs.Pending.{is_nothing}
use Rattle.model.specs.Rules.First.{first_or, first, unless_refused}
use Rattle.model.specs.Rules.Available.{available}
use Rattle.model.specs.Rules.Reserves.{total_reserved, others_reserved, drawing}
use Rattle.model.specs.Rules.Causes.{memory_invalid, nothing_pending, work_pending, slot_out_of_range, slot_active, slot_inactive, slot_precommitted, count_out_of_range, list_short, block_out_of_range, extent_starts, no_extent, reserved_for_others}
use Rattle.model.specs.Rules.Calls.Start.{start_error, started, start_memory}
use Rattle.model.specs.Rules.Calls.Precommit.{precommit_error, precommitting, precommit_memory}
use Rattle.model.specs.Rules.Calls.Allocate.{taking}
use Rattle.model.specs.Rules.Calls.AllocateExtent.{allocate_extent_error, nearest_extent, allocate_extent_answer, allocate_extent_memory, allocate_extent_list}
use Rattle.model.specs.Rules.Touched.{touched, took, taken_blocks}
use Rattle.model.specs.Rules.Valid.{same_words, all_slots, slot_valid, touches, touches_agree, reservations_fit, drawn_fit, is_quiet, pending_valid, valid}
use Rattle.model.proofs.Laws.Rows.{same_rows, rows_same}

list : List ℕ
list = replicate max_count 9

-- slot 1 is open
open1 : Memory
open1 = start_memory (quiet_memory 70 (bitmap (3222273024 ∷ 536870911 ∷ replicate (bitmap_words - 2) 0)) Nothing) 1

-- what an extent of so many blocks near a block begins with, and its number
granted1 : ℕ → ℕ → ℕ
granted1 count near = answer_value (allocate_extent_answer open1 1 count near list)

number1 : ℕ → ℕ → ℕ
number1 count near = answer_number (allocate_extent_answer open1 1 count near list)

-- 10 blocks near 9, 10 (equal distance) and 12 (of which 0 to 9 end nearer); one near 14, 15 and 64; nine near 69, the last block
-- of m; four near 62, across a word's end; then what two extents of five near 27 begin with, one after the other. What isn't
-- there (22), not even where the named block isn't (18); counts (15), a short list (16), slots (10, 12, 13). And the list
pub extents : List (List ℕ)
extents =
    (granted1 10 9 ∷ granted1 10 10 ∷ granted1 10 12 ∷ [])
    ∷ (granted1 1 14 ∷ granted1 1 15 ∷ granted1 1 64 ∷ granted1 9 69 ∷ granted1 4 62 ∷ [])
    ∷ (granted1 5 27 ∷ answer_value (allocate_extent_answer (allocate_extent_memory open1 1 5 27 list) 1 5 27 list) ∷ [])
    ∷ (number1 10 69 ∷ number1 11 0 ∷ number1 11 70 ∷ number1 0 70 ∷ number1 65 0 ∷ [])
    ∷ (answer_number (allocate_extent_answer open1 1 3 70 (9 ∷ 9 ∷ []))
    ∷ answer_number (allocate_extent_answer open1 8 0 70 [])
    ∷ answer_number (allocate_extent_answer open1 0 0 70 [])
    ∷ answer_number (allocate_extent_answer (precommit_memory open1 1) 1 0 70 [])
    ∷ [])
    ∷ allocate_extent_list open1 1 4 62 (9 ∷ 9 ∷ 9 ∷ 9 ∷ 8 ∷ 7 ∷ [])
    ∷ []

pub found : List (List ℕ)
found =
    (0 ∷ 0 ∷ 20 ∷ [])
    ∷ (9 ∷ 20 ∷ 64 ∷ 61 ∷ 62 ∷ [])
    ∷ (25 ∷ 20 ∷ [])
    ∷ (0 ∷ 22 ∷ 18 ∷ 15 ∷ 15 ∷ [])
    ∷ (16 ∷ 10 ∷ 12 ∷ 13 ∷ [])
    ∷ (62 ∷ 63 ∷ 64 ∷ 65 ∷ 8 ∷ 7 ∷ [])
    ∷ []

computed : same_rows extents found ≡ true
unfolding same_rows extents found list open1 granted1 number1 xor is_set bit word_of words_of bitmap_of no_bits_from scan from is_available member all_below adjoining is_start starts distance nearer nearest_of nearest answer is_nothing first_or first unless_refused memory_invalid nothing_pending work_pending slot_out_of_range slot_active slot_inactive slot_precommitted count_out_of_range list_short block_out_of_range extent_starts no_extent start_error started start_memory precommit_error precommitting precommit_memory wrapped after_last taking allocate_extent_error nearest_extent allocate_extent_answer allocate_extent_memory allocate_extent_list touched same_words all_slots slot_valid touches touches_agree took taken_blocks reservations_fit drawn_fit is_quiet pending_valid valid blocks_in_range count_in_range slot_in_range available_blocks available total_reserved others_reserved drawing reserved_for_others
computed = refl

pub extents_found : extents ≡ found
extents_found = rows_same extents found computed
