-- Histories computed from the definitions: from a format of 4 blocks, what each call answers, what the ledger then holds, and the
-- blocks that an open finds. And the holders of a ledger that no list of calls makes.
use Prim.Native.Nat.{ℕ}
use mathlib.Core.Path.{◌≡◌, refl}
use mathlib.Core.Bool.{true, xor}
use mathlib.Core.Option.{none}
use mathlib.Core.List.{List, [], ◌∷◌, ◌++◌, map}
use lib.ListN.{replicate}
use Rattle.bitmap.specs.Sizes.{max_count, blocks_in_range, count_in_range, slot_in_range}
use Rattle.bitmap.specs.Bits.{is_set, bit, word_of, words_of, bitmap_of, no_bits_from}
use Rattle.bitmap.specs.Blocks.{scan, from, allocated_blocks, is_available, available_blocks, member, all_below}
use Rattle.bitmap.specs.Extents.{adjoining, is_start, starts, distance, nearer, nearest_of, nearest}
use Rattle.bitmap.specs.Round.{round_from, wrapped, after_last}
use Rattle.bitmap.specs.Majority.{majority}
use Rattle.model_types.specs.Answers.{answer}
use Rattle.model.specs.Rules.Calls.Allocate.{allocate_error, met, first_met, taking, allocate_answer, allocate_memory, allocate_list}
use Rattle.model.specs.Rules.Calls.AllocateExtent.{allocate_extent_error, nearest_extent, allocate_extent_answer, allocate_extent_memory, allocate_extent_list}
use Rattle.model.specs.Rules.Touched.{touched, touched_blocks, took, taken_blocks}
use Rattle.model.specs.Rules.Calls.CommitCost.{commit_cost_error, cost_for, commit_cost, commit_cost_answer}
use Rattle.model.specs.Rules.Calls.Commit.{commit_error, committing, commit_answer, commit_memory}
use Rattle.model.specs.Rules.Calls.Deallocate.{deallocate_error, freeing, deallocate_answer, deallocate_memory}
use Rattle.model.specs.Rules.Calls.Format.{format_error, formatted, format_answer, format_disk}
use Rattle.model.specs.Rules.Calls.Open.{open_error, recovery_due, recovery_pending, opened, open_answer, open_memory}
use Rattle.model.specs.Rules.Calls.Precommit.{precommit_error, precommitting, precommit_answer, precommit_memory}
use Rattle.model.specs.Rules.Rollback.{rolled_back_com, rolled_back}
use Rattle.model.specs.Rules.Calls.Drop.{drop_error, drop_answer, drop_memory}
use Rattle.model.specs.Rules.Calls.Revoke.{revoke_error, revoke_answer, revoke_memory}
use Rattle.model.specs.Rules.Calls.Start.{start_error, started, start_answer, start_memory}
use Rattle.model.specs.Rules.Calls.Status.{status_error, counts as status_counts, status_answer, allocated, active_slots}
use Rattle.model.specs.Rules.Calls.Store.{store_error, still_due, advanced, next_stored, store_answer, store_memory, store_disk}
use Rattle.model.specs.Rules.Calls.Reserve.{reserve_error, reserve_answer, reserve_memory}
use Rattle.model.specs.Rules.Reserves.{total_reserved, others_reserved, drawing, put_back, used_up, reserving}
use Rattle.model.specs.Rules.Available.{available}
use Rattle.model.specs.Rules.Causes.{memory_invalid, disk_length_wrong, disk_blocks_wrong, disk_bitmap_wrong, disk_log_wrong, disk_mismatched, blocks_out_of_range, nothing_pending, work_pending, slot_out_of_range, slot_active, slot_inactive, slot_precommitted, slot_not_precommitted, count_out_of_range, count_too_large, list_short, too_few_available, block_out_of_range, block_free, block_freeing, extent_starts, no_extent, over_reserved, reserved_for_others}
use Rattle.model_types.specs.Pending.{is_nothing}
use Rattle.model.specs.Rules.Pending.{stores_done, stores_due, one_more_done, new_sam, finished, begun}
use Rattle.model.specs.Rules.Commit.{committed_sam, entries_of, changed_of, commit_due, refreshed, committed}
use Rattle.model.specs.Rules.Disk.{length_in, entries_in, log_entries, entries_valid, word_one_valid, log_valid, durable, stores_of, next_disk, entries_agree, recovery_matches, image_matches, stores_match, parts_match, disk_matches}
use Rattle.model.specs.Rules.First.{first_or, first, unless_refused}
use Rattle.model.specs.Rules.Outcome.{outcome, Call, Outcome, open_call, start_call, allocate_call, allocate_extent_call, deallocate_call, precommit_call, commit_call, drop_call, revoke_call, store_call, status_call, commit_cost_call, reserve_call, crash_call}
use Rattle.model.specs.Rules.Stores.{writes, changes_from, log_stores, checkpoint_with, journal_with, checkpoint_stores, commit_stores}
use Rattle.model.specs.Rules.Valid.{same_words, all_slots, slot_valid, touches, touches_agree, reservations_fit, drawn_fit, is_quiet, pending_valid, valid}
use Rattle.crash_safety.specs.Ledger.{crashed_sets, crashed, has_word, words_from, sets_words, without, takes, frees, counts, commits, counts_store, stores, entered, enter, enter_all, Ledger, Sets, no_sets, ledger_of, sets_of, holders, takers}
use Rattle.crash_safety.specs.World.{events, step, run, World, begin}
use Rattle.model.specs.Rules.Sizes.{disk_words}
use Rattle.model.specs.Rules.Work.{changed, worked, worked_disk, works, works_in, some_work, bearing, blocks_touched}
use Rattle.model.specs.Promises.NextFit.{moves_cursor}
use Rattle.model.specs.Promises.Reservations.{changes_reservation, changes_together}
use Rattle.crash_safety.specs.CommitCost.{touches_for, touches_of, ends_use}
use Rattle.crash_safety.specs.RevokeAlone.{ends_waiting}
use Rattle.crash_safety.specs.Reservations.{settles}
use Rattle.crash_safety.proofs.Recovering.{begins_pending}
use Rattle.crash_safety.proofs.Premises.{world_after, passing, list64, three, idle_calls, busy_calls, recovered, cut_behind_point, pending_commit, touched_rows, premises, premises_expected}
use Rattle.model.proofs.Laws.Rows.{same_rows, rows_same}

-- ---- what is shown

-- the world after some calls, and their numbers and values
record Course : Type 0 where
  world : World
  numbers : List ℕ
  values : List ℕ

follow : List Call → Course → Course
follow [] course = course
follow (call ∷ calls) course =
    let after : Outcome = outcome call course.world.memory course.world.disk in
    follow calls
    (record {
      world = step call course.world;
      numbers = course.numbers ++ (after.number ∷ []);
      values = course.values ++ (after.value ∷ []);
    })

-- of a slot: taken, and freed
slot_sets : Ledger → List ℕ → List (List ℕ)
slot_sets ledger [] = []
slot_sets ledger (s ∷ slots) = (sets_of ledger s).taken ∷ (sets_of ledger s).freed ∷ slot_sets ledger slots

-- numbers, values, the allocated set, the blocks that an open finds, and the sets of some slots
shown : List ℕ → Course → List (List ℕ)
shown slots course =
    course.numbers
    ∷ course.values
    ∷ course.world.ledger.allocated
    ∷ allocated_blocks 4 (open_memory course.world.disk).sam.words
    ∷ slot_sets course.world.ledger slots

after : List ℕ → List Call → List (List ℕ)
after slots calls = shown slots (follow calls (record { world = begin (format_disk (replicate disk_words 0) 4); numbers = []; values = [] }))

-- ---- the histories

-- n store calls
store_calls : ℕ → List Call
store_calls n = replicate n store_call

-- a list as the bench program lends it
list : List ℕ
list = replicate max_count 0

-- a slot starts, takes n blocks, precommits and commits
grow : ℕ → ℕ → List Call
grow s n = start_call s ∷ allocate_call s n list ∷ precommit_call s ∷ commit_call s ∷ []

-- two log stores made: the commit is not yet durable, and slot 1 still holds what it took
before_point : List Call
before_point = open_call ∷ grow 1 2 ++ store_calls 2

-- the third store is the commit point: slot 1's blocks are allocated, and an open replays the log
after_point : List Call
after_point = before_point ++ store_calls 1

-- slot 1 gives back block 0 while slot 3 is open, slot 2 takes it again, behind blocks 2 and 3; then slot 3, which touched nothing,
-- commits
retaken : List Call
retaken =
    open_call
    ∷ grow 1 2
    ++ store_calls 5
    ++ start_call 3
    ∷ start_call 1
    ∷ deallocate_call 1 0
    ∷ precommit_call 1
    ∷ commit_call 1
    ∷ store_calls 5
    ++ grow 2 3
    ++ store_calls 5
    ++ precommit_call 3
    ∷ commit_call 3
    ∷ []

-- an open in the middle of a commit, past its commit point; slot 2 then takes a block once the recovery is made
reopened : List Call
reopened = after_point ++ open_call ∷ store_calls 2 ++ start_call 2 ∷ allocate_call 2 1 list ∷ []

-- slot 7 takes two blocks into a list of three places that aren't zeros, and is refused a third one for a list of none; then it
-- asks what its commit costs with two blocks more, and with three, of which one isn't there
borrowed : List Call
borrowed =
    open_call
    ∷ start_call 7
    ∷ allocate_call 7 2 (9 ∷ 8 ∷ 7 ∷ [])
    ∷ allocate_call 7 1 []
    ∷ status_call
    ∷ commit_cost_call 7 2
    ∷ commit_cost_call 7 3
    ∷ []

-- and drops them, after a revoke that is refused; slot 1 then takes the other blocks, and one of the same behind them
dropped : List Call
dropped = borrowed ++ revoke_call 7 ∷ drop_call 7 ∷ start_call 1 ∷ allocate_call 1 3 list ∷ status_call ∷ []

-- slot 7 takes an extent of one block, the block it names, and of the two next to it the lower one; then it is refused two that
-- adjoin, and one near a block that isn't there
adjoined : List Call
adjoined =
    open_call
    ∷ start_call 1
    ∷ allocate_call 1 1 list
    ∷ start_call 7
    ∷ allocate_extent_call 7 1 2 list
    ∷ allocate_extent_call 7 1 2 (9 ∷ 8 ∷ [])
    ∷ allocate_extent_call 7 2 3 list
    ∷ allocate_extent_call 7 1 4 list
    ∷ []

-- and precommits; a drop is refused
spared : List Call
spared = adjoined ++ precommit_call 7 ∷ drop_call 7 ∷ []

-- a revoke isn't, and slot 1 then takes two that adjoin, nearest to the last block
revoked : List Call
revoked = spared ++ revoke_call 7 ∷ allocate_extent_call 1 2 3 list ∷ []

-- slot 5 takes an extent, carries on behind it and going round, and takes what is left; 17 then, and an open begins at block 0 again
carried : List Call
carried =
    open_call
    ∷ start_call 5
    ∷ allocate_extent_call 5 1 2 list
    ∷ allocate_call 5 2 list
    ∷ allocate_call 5 1 list
    ∷ allocate_call 5 1 list
    ∷ open_call
    ∷ start_call 5
    ∷ allocate_call 5 3 list
    ∷ []

-- three of the four blocks are reserved for slot 1, so two can't be for slot 2, which gets one block and not two; slot 1 takes its three
-- and drops them, and slot 2 is still refused a second one, of an extent or not, and its cost
set_aside : List Call
set_aside =
    open_call
    ∷ reserve_call 1 3
    ∷ reserve_call 2 2
    ∷ start_call 2
    ∷ allocate_call 2 2 list
    ∷ allocate_call 2 1 list
    ∷ start_call 1
    ∷ reserve_call 1 1
    ∷ allocate_call 1 3 list
    ∷ drop_call 1
    ∷ allocate_call 2 1 list
    ∷ allocate_extent_call 2 1 3 list
    ∷ commit_cost_call 2 1
    ∷ []

-- slot 1 takes two of its three and commits: one stays reserved for it, so of the two available blocks one can be for slot 2, and not
-- both; after a crash both can
lowered : List Call
lowered =
    open_call
    ∷ reserve_call 1 3
    ∷ grow 1 2
    ++ store_calls 5
    ++ reserve_call 2 2
    ∷ reserve_call 2 1
    ∷ crash_call
    ∷ open_call
    ∷ reserve_call 2 2
    ∷ []

-- a crash inside a recovery, after one of its two stores; the next open starts it again
crashed_twice : List Call
crashed_twice = after_point ++ crash_call ∷ open_call ∷ store_calls 1 ++ crash_call ∷ status_call ∷ open_call ∷ store_calls 2 ++ status_call ∷ []

pub histories : List (List ℕ)
histories =
    after (1 ∷ []) before_point
    ++ after (1 ∷ []) (before_point ++ crash_call ∷ [])
    ++ after (1 ∷ []) after_point
    ++ after (1 ∷ []) (after_point ++ crash_call ∷ [])
    ++ after (1 ∷ 2 ∷ []) retaken
    ++ after (1 ∷ 2 ∷ []) reopened
    ++ after (7 ∷ []) borrowed
    ++ after (1 ∷ 7 ∷ []) dropped
    ++ after (1 ∷ 7 ∷ []) adjoined
    ++ after (1 ∷ 7 ∷ []) spared
    ++ after (1 ∷ 7 ∷ []) revoked
    ++ after (5 ∷ []) carried
    ++ after (1 ∷ 2 ∷ []) set_aside
    ++ after (1 ∷ []) lowered
    ++ after (1 ∷ []) crashed_twice

pub expected : List (List ℕ)
expected =
    -- before the commit point
    (0 ∷ 0 ∷ 0 ∷ 0 ∷ 0 ∷ 0 ∷ 0 ∷ [])
    ∷ (0 ∷ 0 ∷ 0 ∷ 0 ∷ 5 ∷ 4 ∷ 3 ∷ [])
    ∷ []
    ∷ []
    ∷ (0 ∷ 1 ∷ [])
    ∷ []
    -- and after a crash there
    ∷ (0 ∷ 0 ∷ 0 ∷ 0 ∷ 0 ∷ 0 ∷ 0 ∷ 0 ∷ [])
    ∷ (0 ∷ 0 ∷ 0 ∷ 0 ∷ 5 ∷ 4 ∷ 3 ∷ 0 ∷ [])
    ∷ []
    ∷ []
    ∷ []
    ∷ []
    -- after the commit point
    ∷ (0 ∷ 0 ∷ 0 ∷ 0 ∷ 0 ∷ 0 ∷ 0 ∷ 0 ∷ [])
    ∷ (0 ∷ 0 ∷ 0 ∷ 0 ∷ 5 ∷ 4 ∷ 3 ∷ 2 ∷ [])
    ∷ (0 ∷ 1 ∷ [])
    ∷ (0 ∷ 1 ∷ [])
    ∷ []
    ∷ []
    -- and after a crash there
    ∷ (0 ∷ 0 ∷ 0 ∷ 0 ∷ 0 ∷ 0 ∷ 0 ∷ 0 ∷ 0 ∷ [])
    ∷ (0 ∷ 0 ∷ 0 ∷ 0 ∷ 5 ∷ 4 ∷ 3 ∷ 2 ∷ 0 ∷ [])
    ∷ (0 ∷ 1 ∷ [])
    ∷ (0 ∷ 1 ∷ [])
    ∷ []
    ∷ []
    -- freed by slot 1, retaken by slot 2
    ∷ replicate 31 0
    ∷ ((0 ∷ 0 ∷ 0 ∷ 0 ∷ 5 ∷ 4 ∷ 3 ∷ 2 ∷ 1 ∷ 0 ∷ []) ++ (0 ∷ 0 ∷ 0 ∷ 0 ∷ 5 ∷ 4 ∷ 3 ∷ 2 ∷ 1 ∷ 0 ∷ []) ++ (0 ∷ 2 ∷ 0 ∷ 5 ∷ 4 ∷ 3 ∷ 2 ∷ 1 ∷ 0 ∷ 0 ∷ 0 ∷ []))
    ∷ (1 ∷ 2 ∷ 3 ∷ 0 ∷ [])
    ∷ (0 ∷ 1 ∷ 2 ∷ 3 ∷ [])
    ∷ []
    ∷ []
    ∷ []
    ∷ []
    -- opened in the middle of a commit
    ∷ replicate 13 0
    ∷ (0 ∷ 0 ∷ 0 ∷ 0 ∷ 5 ∷ 4 ∷ 3 ∷ 2 ∷ 2 ∷ 1 ∷ 0 ∷ 0 ∷ 2 ∷ [])
    ∷ (0 ∷ 1 ∷ [])
    ∷ (0 ∷ 1 ∷ [])
    ∷ []
    ∷ []
    ∷ (2 ∷ [])
    ∷ []
    -- taken by slot 7; 16 for a list too short, 17 for blocks that aren't there
    ∷ (0 ∷ 0 ∷ 0 ∷ 16 ∷ 0 ∷ 0 ∷ 17 ∷ [])
    ∷ (0 ∷ 0 ∷ 0 ∷ 0 ∷ 0 ∷ 5 ∷ 0 ∷ [])
    ∷ []
    ∷ []
    ∷ (0 ∷ 1 ∷ [])
    ∷ []
    -- dropped, and taken by slot 1; 14 for a revoke of an open slot
    ∷ (0 ∷ 0 ∷ 0 ∷ 16 ∷ 0 ∷ 0 ∷ 17 ∷ 14 ∷ 0 ∷ 0 ∷ 0 ∷ 0 ∷ [])
    ∷ (0 ∷ 0 ∷ 0 ∷ 0 ∷ 0 ∷ 5 ∷ 0 ∷ 0 ∷ 0 ∷ 0 ∷ 2 ∷ 0 ∷ [])
    ∷ []
    ∷ []
    ∷ (2 ∷ 3 ∷ 0 ∷ [])
    ∷ []
    ∷ []
    ∷ []
    -- taken as extents by slot 7; 22 for two that don't adjoin, 18 for a block that isn't there
    ∷ (0 ∷ 0 ∷ 0 ∷ 0 ∷ 0 ∷ 0 ∷ 22 ∷ 18 ∷ [])
    ∷ (0 ∷ 0 ∷ 0 ∷ 0 ∷ 2 ∷ 1 ∷ 0 ∷ 0 ∷ [])
    ∷ []
    ∷ []
    ∷ (0 ∷ [])
    ∷ []
    ∷ (2 ∷ 1 ∷ [])
    ∷ []
    -- 13 for a drop of a precommitted slot, which holds what it took
    ∷ (0 ∷ 0 ∷ 0 ∷ 0 ∷ 0 ∷ 0 ∷ 22 ∷ 18 ∷ 0 ∷ 13 ∷ [])
    ∷ (0 ∷ 0 ∷ 0 ∷ 0 ∷ 2 ∷ 1 ∷ 0 ∷ 0 ∷ 0 ∷ 0 ∷ [])
    ∷ []
    ∷ []
    ∷ (0 ∷ [])
    ∷ []
    ∷ (2 ∷ 1 ∷ [])
    ∷ []
    -- revoked, and an extent taken by slot 1
    ∷ (0 ∷ 0 ∷ 0 ∷ 0 ∷ 0 ∷ 0 ∷ 22 ∷ 18 ∷ 0 ∷ 13 ∷ 0 ∷ 0 ∷ [])
    ∷ (0 ∷ 0 ∷ 0 ∷ 0 ∷ 2 ∷ 1 ∷ 0 ∷ 0 ∷ 0 ∷ 0 ∷ 0 ∷ 2 ∷ [])
    ∷ []
    ∷ []
    ∷ (0 ∷ 2 ∷ 3 ∷ [])
    ∷ []
    ∷ []
    ∷ []
    -- taken by slot 5 in the order met, before the open and after it
    ∷ (0 ∷ 0 ∷ 0 ∷ 0 ∷ 0 ∷ 17 ∷ 0 ∷ 0 ∷ 0 ∷ [])
    ∷ (0 ∷ 0 ∷ 2 ∷ 3 ∷ 1 ∷ 0 ∷ 0 ∷ 0 ∷ 0 ∷ [])
    ∷ []
    ∷ []
    ∷ (0 ∷ 1 ∷ 2 ∷ [])
    ∷ []
    -- reserved for slot 1: 23 for slot 2, and 24; 11 once slot 1 is open
    ∷ (0 ∷ 0 ∷ 23 ∷ 0 ∷ 24 ∷ 0 ∷ 0 ∷ 11 ∷ 0 ∷ 0 ∷ 24 ∷ 24 ∷ 24 ∷ [])
    ∷ (0 ∷ 0 ∷ 0 ∷ 0 ∷ 0 ∷ 0 ∷ 0 ∷ 0 ∷ 1 ∷ 0 ∷ 0 ∷ 0 ∷ 0 ∷ [])
    ∷ []
    ∷ []
    ∷ []
    ∷ []
    ∷ (0 ∷ [])
    ∷ []
    -- lowered by a commit; wiped by a crash
    ∷ (replicate 11 0 ++ (23 ∷ 0 ∷ 0 ∷ 0 ∷ 0 ∷ []))
    ∷ (0 ∷ 0 ∷ 0 ∷ 0 ∷ 0 ∷ 5 ∷ 4 ∷ 3 ∷ 2 ∷ 1 ∷ 0 ∷ 0 ∷ 0 ∷ 0 ∷ 0 ∷ 0 ∷ [])
    ∷ (0 ∷ 1 ∷ [])
    ∷ (0 ∷ 1 ∷ [])
    ∷ []
    ∷ []
    -- crashed inside a recovery; status is refused until the next open
    ∷ (replicate 12 0 ++ (1 ∷ 0 ∷ 0 ∷ 0 ∷ 0 ∷ []))
    ∷ (0 ∷ 0 ∷ 0 ∷ 0 ∷ 5 ∷ 4 ∷ 3 ∷ 2 ∷ 0 ∷ 2 ∷ 1 ∷ 0 ∷ 0 ∷ 2 ∷ 1 ∷ 0 ∷ 2 ∷ [])
    ∷ (0 ∷ 1 ∷ [])
    ∷ (0 ∷ 1 ∷ [])
    ∷ []
    ∷ []
    ∷ []

computed : same_rows (histories ++ premises) (expected ++ premises_expected) ≡ true
unfolding same_rows expected histories premises premises_expected passing three idle_calls busy_calls recovered cut_behind_point pending_commit touched_rows world_after list64 moves_cursor changes_reservation changes_together settles ends_waiting ends_use begins_pending blocks_touched touches_for touches_of changed worked worked_disk works works_in some_work bearing after shown slot_sets follow before_point after_point retaken reopened borrowed dropped adjoined spared revoked carried set_aside lowered crashed_twice grow list store_calls xor is_set bit word_of words_of bitmap_of no_bits_from scan from allocated_blocks is_available available_blocks member all_below majority answer commit_cost_error touched_blocks cost_for commit_cost commit_cost_answer allocate_error round_from wrapped after_last met first_met taking allocate_answer allocate_memory allocate_list adjoining is_start starts distance nearer nearest_of nearest extent_starts no_extent allocate_extent_error nearest_extent allocate_extent_answer allocate_extent_memory allocate_extent_list commit_error committing commit_answer commit_memory deallocate_error freeing deallocate_answer deallocate_memory format_error formatted format_answer format_disk open_error recovery_due recovery_pending opened open_answer open_memory precommit_error precommitting precommit_answer precommit_memory drop_error drop_answer drop_memory revoke_error revoke_answer revoke_memory rolled_back_com rolled_back start_error started start_answer start_memory status_error status_counts status_answer allocated active_slots store_error still_due advanced next_stored store_answer store_memory store_disk reserve_error reserve_answer reserve_memory total_reserved others_reserved drawing put_back used_up reserving memory_invalid disk_length_wrong disk_blocks_wrong disk_bitmap_wrong disk_log_wrong disk_mismatched blocks_out_of_range is_nothing nothing_pending work_pending slot_out_of_range slot_active slot_inactive slot_precommitted slot_not_precommitted count_out_of_range count_too_large list_short available too_few_available block_out_of_range block_free block_freeing over_reserved reserved_for_others committed_sam entries_of changed_of commit_due refreshed committed length_in entries_in log_entries entries_valid log_valid durable entries_agree recovery_matches disk_matches first_or first unless_refused touched outcome stores_done stores_due one_more_done finished begun writes changes_from log_stores checkpoint_with journal_with checkpoint_stores commit_stores blocks_in_range count_in_range slot_in_range same_words all_slots slot_valid touches touches_agree took taken_blocks reservations_fit drawn_fit is_quiet pending_valid valid crashed_sets crashed has_word words_from sets_words without takes frees counts commits counts_store stores entered enter enter_all events step run word_one_valid stores_of next_disk image_matches stores_match parts_match new_sam
computed = refl

pub histories-found : histories ++ premises ≡ expected ++ premises_expected
histories-found = rows_same (histories ++ premises) (expected ++ premises_expected) computed

-- ---- holders

-- block 5 is allocated, and slots 0 and 7 have taken it; slot 3 has given back block 6, and slot 7 has taken block 1
pub made_up : Ledger
made_up =
    let sets : List ℕ → List ℕ → Sets = λ taken freed. record { taken = taken; freed = freed } in
    ledger_of
    (5 ∷ 2 ∷ [])
    (sets (5 ∷ []) [] ∷ no_sets ∷ no_sets ∷ sets [] (6 ∷ []) ∷ no_sets ∷ no_sets ∷ no_sets ∷ sets (1 ∷ 5 ∷ []) [] ∷ [])
    none

-- "A block's holders are A, if the block is in it, and each seat with the block in its taken."
pub held : map (holders made_up) (5 ∷ 2 ∷ 1 ∷ 6 ∷ []) ≡ 3 ∷ 1 ∷ 1 ∷ 0 ∷ []
unfolding holders takers member made_up
held = refl
