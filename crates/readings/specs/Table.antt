-- Document 01, "Bench readings", P1 to P12, as one table that computes; document 02's nursery and commit costs as two more.
-- "m is 4, SAM word 0 is 1, seat 1 takes 1 block, seat 2 takes 2 (document 000, figure 3)."
use Rattle.std.specs.Prelude.{ℕ, ◌-◌, ◌≡◌, refl, true, false, ◌&&◌, List, [], ◌∷◌, get_or, take, replicate}
use Rattle.std.proofs.Math.Bool.{xor}
use Rattle.bitmap.specs.declared.Bitmap.{Bitmap}
use Rattle.bitmap.specs.Sizes.{bitmap_words, max_count, words_for, blocks_in_range, count_in_range, slot_in_range}
use Rattle.model_types.specs.declared.memory.Pending.TheVariants.{Nothing}
use Rattle.model_types.specs.declared.answer.Counts.{Counts}
use Rattle.model.specs.Rules.Sizes.{tail_words}
use Rattle.model.specs.Rules.Completion.{after_stores}
use Rattle.bitmap.specs.Bits.{is_set, bit, word_of, words_of, bitmap_of, no_bits_from}
use Rattle.bitmap.specs.Blocks.{scan, from, allocated_blocks, is_available, available_blocks, is_allocating, allocating_blocks, is_freeing, freeing_blocks, is_held, held_blocks, member, all_below}
use Rattle.bitmap.specs.Round.{round_from, wrapped, after_last}
use Rattle.bitmap.specs.Majority.{majority}
use Rattle.model_types.specs.Answers.{answer, answer_number, answer_value}
use Rattle.model.specs.Rules.Calls.Allocate.{allocate_error, met, first_met, taking, allocate_answer, allocate_memory, allocate_list}
use Rattle.model.specs.Rules.Touched.{touched, touched_blocks, took, taken_blocks}
use Rattle.model.specs.Rules.Calls.CommitCost.{commit_cost_error, cost_for, commit_cost, commit_cost_answer}
use Rattle.model.specs.Rules.Calls.Commit.{commit_error, committing, commit_answer, commit_memory}
use Rattle.model.specs.Rules.Calls.Deallocate.{deallocate_error, freeing, deallocate_answer, deallocate_memory}
use Rattle.model.specs.Rules.Calls.Open.{open_error, recovery_due, recovery_pending, opened, open_answer, open_memory}
use Rattle.model.specs.Rules.Calls.Precommit.{precommit_error, precommitting, precommit_answer, precommit_memory}
use Rattle.model.specs.Rules.Calls.Start.{start_error, started, start_answer, start_memory}
use Rattle.model.specs.Rules.Calls.Status.{status_error, allocated, active_slots, counts, status_answer}
use Rattle.model.specs.Rules.Calls.Store.{store_error, still_due, advanced, next_stored, store_answer, store_memory, store_disk}
use Rattle.model.specs.Rules.Available.{available}
use Rattle.model.specs.Rules.Reserves.{total_reserved, others_reserved, drawing, used_up}
use Rattle.model.specs.Rules.Causes.{memory_invalid, disk_length_wrong, disk_blocks_wrong, disk_bitmap_wrong, disk_log_wrong, disk_mismatched, nothing_pending, work_pending, slot_out_of_range, slot_active, slot_inactive, slot_precommitted, slot_not_precommitted, count_out_of_range, count_too_large, list_short, too_few_available, block_out_of_range, block_free, block_freeing, reserved_for_others}
use Rattle.model_types.specs.Pending.{is_nothing}
use Rattle.model.specs.Rules.Pending.{stores_done, stores_due, one_more_done, new_sam, finished}
use Rattle.model.specs.Rules.Commit.{committed_sam, entries_of, changed_of, commit_due, refreshed, committed}
use Rattle.model.specs.Rules.Disk.{disk_of, length_in, entries_in, log_entries, entries_valid, word_one_valid, log_valid, durable, stores_of, next_disk, due_stores, entries_agree, recovery_matches, image_matches, stores_match, parts_match, disk_matches}
use Rattle.model.specs.Rules.First.{first_or, first, unless_refused}
use Rattle.model_types.specs.Memory.{quiet_memory, bitmap, slot_at}
use Rattle.model.specs.Rules.Stores.{writes, changes_from, log_stores, checkpoint_with, journal_with, checkpoint_stores, commit_stores, Store}
use Rattle.model.specs.Rules.Valid.{same_words, all_slots, slot_valid, touches, touches_agree, reservations_fit, drawn_fit, is_quiet, pending_valid, valid}
use Rattle.model.proofs.Laws.Rows.{same_rows, rows_same}
use Rattle.model.proofs.Laws.Disk.Writes.{and_first, and_second}

-- a list of 64 places, as the bench program lends
list : List ℕ
list = replicate max_count 0

pub sam0 : Bitmap
sam0 = bitmap (1 ∷ replicate (bitmap_words - 1) 0)

disk0 : List ℕ
disk0 = disk_of 4 0 sam0.words (replicate tail_words 0)

-- word 0 of a bitmap
word0 : Bitmap → ℕ
word0 map = get_or map.words 0 0

flat : List Store → List ℕ
flat [] = []
flat (store ∷ stores) = store.place ∷ store.value ∷ flat stores

-- allocated, available, allocating, freeing, held, active
pub figures : Counts → List ℕ
figures found = found.allocated ∷ found.available ∷ found.allocating ∷ found.freeing ∷ found.held ∷ found.active ∷ []

-- slot 1 opens and takes its block; slot 2 opens, takes its two, precommits and commits, to the fifth store
pub readings : List (List ℕ)
readings =
    let open1 = start_memory (quiet_memory 4 sam0 Nothing) 1 in
    let taken1 = allocate_memory open1 1 1 list in
    let open2 = start_memory taken1 2 in
    let taken2 = allocate_memory open2 2 2 list in
    let precommitted2 = precommit_memory taken2 2 in
    let pending2 = commit_memory precommitted2 2 in
    let committed2 = (after_stores 5 pending2 disk0).memory in
    let crash2 = (after_stores 2 pending2 disk0).disk in
    let crash3 = (after_stores 3 pending2 disk0).disk in
    let precommitted1 = precommit_memory open1 1 in
    take 1 (allocate_list open1 1 1 list)
    ∷ take 2 (allocate_list open2 2 2 list)
    ∷ (word0 taken2.com ∷ [])
    ∷ flat (due_stores pending2 disk0 pending2.pending)
    ∷ (word0 committed2.sam ∷ [])
    ∷ (word0 (slot_at committed2 1).tam ∷ [])
    ∷ (word0 (open_memory crash2).sam ∷ [])
    ∷ (word0 (open_memory crash3).sam ∷ answer_value (open_answer crash3) ∷ [])
    ∷ (answer_number (allocate_answer taken2 1 1 list) ∷ [])
    ∷ (answer_number (deallocate_answer taken2 1 1) ∷ [])
    ∷ (answer_number (commit_answer precommitted1 1) ∷ answer_value (commit_answer precommitted1 1) ∷ [])
    ∷ (words_for 32 ∷ words_for 33 ∷ [])
    ∷ []

-- P1 to P12
pub expected : List (List ℕ)
expected =
    (1 ∷ [])
    ∷ (2 ∷ 3 ∷ [])
    ∷ (15 ∷ [])
    ∷ (130 ∷ 0 ∷ 131 ∷ 13 ∷ 1 ∷ 1 ∷ 2 ∷ 13 ∷ 1 ∷ 0 ∷ [])
    ∷ (13 ∷ [])
    ∷ (15 ∷ [])
    ∷ (1 ∷ [])
    ∷ (13 ∷ 2 ∷ [])
    ∷ (17 ∷ [])
    ∷ (19 ∷ [])
    ∷ (0 ∷ 0 ∷ [])
    ∷ (1 ∷ 2 ∷ [])
    ∷ []

-- Document 02, job 1: "A nursery saw 9 blocks free and was refused 6, since seven were spoken for." m is 16 and blocks 0 to 6 are
-- allocated; slot 1 takes seven of the 9, and slot 2 frees block 3. The six counts, and what a count of 6, of 3 and of 2 answers
pub nursery : List (List ℕ)
nursery =
    let open1 = start_memory (quiet_memory 16 (bitmap (127 ∷ replicate (bitmap_words - 1) 0)) Nothing) 1 in
    let taken1 = allocate_memory open1 1 7 list in
    let asked = deallocate_memory (start_memory taken1 2) 2 3 in
    figures (counts (quiet_memory 16 (bitmap (127 ∷ replicate (bitmap_words - 1) 0)) Nothing))
    ∷ figures (counts asked)
    ∷ (answer_number (allocate_answer asked 2 6 list) ∷ answer_number (allocate_answer asked 2 3 list) ∷ answer_number (allocate_answer asked 2 2 list) ∷ [])
    ∷ []

pub told : List (List ℕ)
told =
    (7 ∷ 9 ∷ 0 ∷ 0 ∷ 7 ∷ 0 ∷ [])
    ∷ (7 ∷ 2 ∷ 7 ∷ 1 ∷ 6 ∷ 2 ∷ [])
    ∷ (17 ∷ 17 ∷ 0 ∷ [])
    ∷ []

-- Document 02, job 2: "the answer is 0 if t + n is 0, else 3·(the smaller of t + n and W) + 2". m is 70, so W is 3, and of its
-- blocks 0 and 33 are allocated. Slot 1 has touched none, then two blocks of one word, or two of two words. What counts of 0, 1,
-- 2, 3 and 64 cost; the refusals of 65, of slots 8, 0 (idle) and 1 (precommitted), and of 4 blocks where 3 are available; then
-- what two touched blocks cost, and what their commit answers
pub costs : List (List ℕ)
costs =
    let open1 = start_memory (quiet_memory 70 (bitmap (1 ∷ 2 ∷ replicate (bitmap_words - 2) 0)) Nothing) 1 in
    let taken1 = allocate_memory open1 1 2 list in
    let freed1 = deallocate_memory (deallocate_memory open1 1 0) 1 33 in
    let small1 = start_memory (quiet_memory 4 sam0 Nothing) 1 in
    (answer_value (commit_cost_answer open1 1 0)
    ∷ answer_value (commit_cost_answer open1 1 1)
    ∷ answer_value (commit_cost_answer open1 1 2)
    ∷ answer_value (commit_cost_answer open1 1 3)
    ∷ answer_value (commit_cost_answer open1 1 64)
    ∷ [])
    ∷ (answer_number (commit_cost_answer open1 1 65)
    ∷ answer_number (commit_cost_answer open1 8 0)
    ∷ answer_number (commit_cost_answer open1 0 0)
    ∷ answer_number (commit_cost_answer (precommit_memory open1 1) 1 0)
    ∷ answer_number (commit_cost_answer small1 1 4)
    ∷ [])
    ∷ (answer_value (commit_cost_answer taken1 1 0) ∷ answer_value (commit_answer (precommit_memory taken1 1) 1) ∷ [])
    ∷ (answer_value (commit_cost_answer freed1 1 0) ∷ answer_value (commit_answer (precommit_memory freed1 1) 1) ∷ [])
    ∷ []

pub priced : List (List ℕ)
priced =
    (0 ∷ 5 ∷ 8 ∷ 11 ∷ 11 ∷ [])
    ∷ (15 ∷ 10 ∷ 12 ∷ 13 ∷ 17 ∷ [])
    ∷ (8 ∷ 5 ∷ [])
    ∷ (8 ∷ 8 ∷ [])
    ∷ []

computed : (same_rows readings expected && (same_rows nursery told && same_rows costs priced)) ≡ true
unfolding same_rows expected told priced list sam0 disk0 word0 flat figures readings nursery costs xor is_set bit word_of words_of bitmap_of no_bits_from scan from allocated_blocks is_available available_blocks is_allocating allocating_blocks is_freeing freeing_blocks is_held held_blocks member all_below majority answer commit_cost_error touched_blocks cost_for commit_cost commit_cost_answer allocate_error round_from wrapped after_last met first_met taking allocate_answer allocate_memory allocate_list commit_error committing commit_answer commit_memory deallocate_error freeing deallocate_answer deallocate_memory open_error recovery_due recovery_pending opened open_answer open_memory precommit_error precommitting precommit_answer precommit_memory start_error started start_answer start_memory status_error allocated active_slots counts status_answer store_error still_due advanced next_stored store_answer store_memory store_disk memory_invalid disk_length_wrong disk_blocks_wrong disk_bitmap_wrong disk_log_wrong disk_mismatched is_nothing nothing_pending work_pending slot_out_of_range slot_active slot_inactive slot_precommitted slot_not_precommitted count_out_of_range count_too_large list_short available too_few_available block_out_of_range block_free block_freeing committed_sam entries_of changed_of commit_due refreshed committed length_in entries_in log_entries entries_valid word_one_valid log_valid durable stores_of next_disk due_stores entries_agree recovery_matches image_matches stores_match parts_match disk_matches first_or first unless_refused touched stores_done stores_due one_more_done new_sam finished writes changes_from log_stores checkpoint_with journal_with checkpoint_stores commit_stores blocks_in_range count_in_range slot_in_range same_words all_slots slot_valid touches touches_agree took taken_blocks reservations_fit drawn_fit is_quiet pending_valid valid total_reserved others_reserved drawing used_up reserved_for_others
computed = refl

both : (same_rows nursery told && same_rows costs priced) ≡ true
both = and_second (same_rows readings expected) (same_rows nursery told && same_rows costs priced) computed

pub table : readings ≡ expected
table = rows_same readings expected (and_first (same_rows readings expected) (same_rows nursery told && same_rows costs priced) computed)

pub four_counts : nursery ≡ told
four_counts = rows_same nursery told (and_first (same_rows nursery told) (same_rows costs priced) both)

pub commit_costs : costs ≡ priced
commit_costs = rows_same costs priced (and_second (same_rows nursery told) (same_rows costs priced) both)

-- cause 16, "list shorter than the count": a list as long as the count is not
pub short_list : (list_short (9 ∷ []) 2 ≡ true) × (list_short (9 ∷ 9 ∷ []) 2 ≡ false)
unfolding list_short
short_list = (refl, refl)
