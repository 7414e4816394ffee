-- Where the promises over lists of calls stop, computed: for each test on works, which of some calls do a work that passes it. A test that
-- passes more, so that a promise would say less, gives other rows than these. Histories.antt holds them to what is expected.
use Prim.Native.Nat.{ℕ}
use mathlib.Core.Bool.{Bool, cond}
use mathlib.Core.List.{List, [], ◌∷◌, ◌++◌, map}
use lib.ListN.{replicate}
use Rattle.bitmap.specs.Sizes.{max_count}
use Rattle.model_types.specs.declared.memory.Pending.{Pending}
use Rattle.model.specs.Rules.Sizes.{disk_words}
use Rattle.model.specs.Rules.Calls.Format.{format_disk}
use Rattle.model.specs.Rules.Outcome.{Call, open_call, start_call, allocate_call, allocate_extent_call, deallocate_call, precommit_call, commit_call, drop_call, revoke_call, store_call, status_call, commit_cost_call, reserve_call, crash_call}
use Rattle.model.specs.Rules.Work.{Work, works_in, some_work}
use Rattle.model.specs.Promises.NextFit.{moves_cursor}
use Rattle.model.specs.Promises.Reservations.{changes_reservation, changes_together}
use Rattle.crash_safety.specs.World.{World, begin, run}
use Rattle.crash_safety.specs.CommitCost.{touches_in, ends_use}
use Rattle.crash_safety.specs.RevokeAlone.{ends_waiting}
use Rattle.crash_safety.specs.Reservations.{settles}
use Rattle.crash_safety.proofs.Recovering.{begins_pending}

-- a world of four blocks after some calls
unfoldable pub world_after : List Call → World
world_after calls = run calls (begin (format_disk (replicate disk_words 0) 4))

-- for each list of calls 1 if one of its works, where it stands, passes the test, and else 0
unfoldable pub passing : (Work → Pending → Bool) → World → List (List Call) → List ℕ
passing test w lists = map (λ calls. cond (some_work test (works_in calls w.memory w.disk) w.memory w.disk) 1 0) lists

unfoldable pub list64 : List ℕ
list64 = replicate max_count 0

-- slot 1 is open, with two blocks reserved and none drawn; slot 2 is open, and slot 3 precommitted with a block taken
unfoldable pub three : World
three =
    world_after
    (open_call ∷ reserve_call 1 2 ∷ start_call 1 ∷ start_call 2 ∷ start_call 3 ∷ allocate_call 3 1 list64 ∷ precommit_call 3 ∷ [])

-- calls that are done nothing of, in that world: refused ones of each slot, and questions
unfoldable pub idle_calls : List (List Call)
idle_calls =
    (start_call 1 ∷ reserve_call 1 1 ∷ allocate_call 1 1 [] ∷ allocate_extent_call 1 4 0 list64 ∷ revoke_call 1 ∷ commit_call 1 ∷ [])
    ∷ (start_call 3 ∷ reserve_call 3 0 ∷ allocate_call 3 1 list64 ∷ deallocate_call 3 0 ∷ precommit_call 3 ∷ drop_call 3 ∷ [])
    ∷ (store_call ∷ status_call ∷ commit_cost_call 1 1 ∷ allocate_call 2 2 list64 ∷ [])
    ∷ []

-- and that are: of each kind one, of slots 1, 2 and 3. In the seventh slot 1's allocate is delayed by slot 3's commit (8), whose block it
-- then frees; in the eighth its own commit has no stores, in the ninth it has
unfoldable pub busy_calls : List (List Call)
busy_calls =
    (open_call ∷ [])
    ∷ (crash_call ∷ [])
    ∷ (allocate_call 1 1 list64 ∷ [])
    ∷ (allocate_extent_call 2 1 3 list64 ∷ [])
    ∷ (drop_call 1 ∷ start_call 1 ∷ [])
    ∷ (revoke_call 3 ∷ [])
    ∷ (commit_call 3 ∷ allocate_call 1 1 list64 ∷ replicate 5 store_call ++ deallocate_call 1 0 ∷ [])
    ∷ (precommit_call 1 ∷ commit_call 1 ∷ [])
    ∷ (allocate_call 1 1 list64 ∷ precommit_call 1 ∷ commit_call 1 ∷ store_call ∷ [])
    ∷ (drop_call 2 ∷ reserve_call 2 1 ∷ start_call 2 ∷ [])
    ∷ []

-- a recovery's stores, of a commit that the power failed in behind its commit point, with another slot's work; and a new commit behind it
unfoldable pub recovered : List (List Call)
recovered =
    (open_call ∷ replicate 2 store_call ++ start_call 2 ∷ allocate_call 2 1 list64 ∷ drop_call 2 ∷ crash_call ∷ commit_call 1 ∷ [])
    ∷ (open_call ∷ replicate 2 store_call ++ start_call 1 ∷ precommit_call 1 ∷ commit_call 1 ∷ [])
    ∷ []

unfoldable pub cut_behind_point : World
cut_behind_point =
    world_after (open_call ∷ start_call 1 ∷ allocate_call 1 2 list64 ∷ precommit_call 1 ∷ commit_call 1 ∷ replicate 3 store_call ++ crash_call ∷ [])

-- slot 1's own commit is pending: its store settles what it drew
unfoldable pub pending_commit : World
pending_commit = world_after (open_call ∷ reserve_call 1 2 ∷ start_call 1 ∷ allocate_call 1 1 list64 ∷ precommit_call 1 ∷ commit_call 1 ∷ [])

-- what is touched for slot 1: its grants by their blocks, a block freed, and nothing of other slots or of refused calls
unfoldable pub touched_rows : List ℕ
touched_rows =
    map (λ calls. touches_in 1 calls three)
    ((allocate_call 1 2 list64 ∷ allocate_call 2 1 list64 ∷ [])
    ∷ (allocate_call 1 1 [] ∷ drop_call 3 ∷ allocate_extent_call 2 1 1 list64 ∷ [])
    ∷ (revoke_call 3 ∷ allocate_extent_call 1 2 1 list64 ∷ allocate_call 1 1 list64 ∷ drop_call 1 ∷ [])
    ∷ (commit_call 3 ∷ allocate_call 1 1 list64 ∷ replicate 5 store_call ++ deallocate_call 1 0 ∷ [])
    ∷ [])
    ++ map (λ calls. touches_in 1 calls (world_after (open_call ∷ start_call 2 ∷ allocate_call 2 2 list64 ∷ precommit_call 2 ∷ commit_call 2 ∷ replicate 5 store_call ++ start_call 1 ∷ [])))
    ((deallocate_call 1 0 ∷ deallocate_call 1 0 ∷ deallocate_call 1 3 ∷ deallocate_call 1 1 ∷ []) ∷ [])

unfoldable pub premises : List (List ℕ)
premises =
    passing moves_cursor three idle_calls
    ∷ passing moves_cursor three busy_calls
    ∷ passing (changes_reservation 1) three idle_calls
    ∷ passing (changes_reservation 1) three busy_calls
    ∷ passing (changes_reservation 3) three busy_calls
    ∷ passing (changes_together 1) three busy_calls
    ∷ passing (changes_together 3) three busy_calls
    ∷ passing (changes_together 1) pending_commit ((store_call ∷ []) ∷ (allocate_call 1 1 list64 ∷ []) ∷ [])
    ∷ passing (changes_together 2) pending_commit ((store_call ∷ []) ∷ [])
    ∷ passing (settles 1) three idle_calls
    ∷ passing (settles 1) three busy_calls
    ∷ passing (settles 3) three busy_calls
    ∷ passing (ends_waiting 3) three idle_calls
    ∷ passing (ends_waiting 3) three busy_calls
    ∷ passing (ends_waiting 1) three busy_calls
    ∷ passing (ends_waiting 2) three busy_calls
    ∷ passing ends_use three idle_calls
    ∷ passing ends_use three busy_calls
    ∷ passing begins_pending cut_behind_point recovered
    ∷ touched_rows
    ∷ []

unfoldable pub premises_expected : List (List ℕ)
premises_expected =
    -- the cursor moves: an open, a crash, and each grant
    (0 ∷ 0 ∷ 0 ∷ [])
    ∷ (1 ∷ 1 ∷ 1 ∷ 1 ∷ 0 ∷ 0 ∷ 0 ∷ 0 ∷ 1 ∷ 0 ∷ [])
    -- slot 1's reservation changes: an open, a crash, its own grant and drop; slot 3's by its revoke
    ∷ (0 ∷ 0 ∷ 0 ∷ [])
    ∷ (1 ∷ 1 ∷ 1 ∷ 0 ∷ 1 ∷ 0 ∷ 0 ∷ 0 ∷ 1 ∷ 0 ∷ [])
    ∷ (1 ∷ 1 ∷ 0 ∷ 0 ∷ 0 ∷ 1 ∷ 0 ∷ 0 ∷ 0 ∷ 0 ∷ [])
    -- what it has reserved and drawn changes: an open, a crash, and its commit, with its stores; not by a drop, nor slot 3's by its revoke
    ∷ (1 ∷ 1 ∷ 0 ∷ 0 ∷ 0 ∷ 0 ∷ 0 ∷ 1 ∷ 1 ∷ 0 ∷ [])
    ∷ (1 ∷ 1 ∷ 0 ∷ 0 ∷ 0 ∷ 0 ∷ 1 ∷ 0 ∷ 0 ∷ 0 ∷ [])
    ∷ (1 ∷ 0 ∷ [])
    ∷ (0 ∷ [])
    -- and the same end a promise that it is put back whole, but no store does
    ∷ (0 ∷ 0 ∷ 0 ∷ [])
    ∷ (1 ∷ 1 ∷ 0 ∷ 0 ∷ 0 ∷ 0 ∷ 0 ∷ 1 ∷ 1 ∷ 0 ∷ [])
    ∷ (1 ∷ 1 ∷ 0 ∷ 0 ∷ 0 ∷ 0 ∷ 1 ∷ 0 ∷ 0 ∷ 0 ∷ [])
    -- slot 3's waiting ends: an open, a crash, its revoke and its commit
    ∷ (0 ∷ 0 ∷ 0 ∷ [])
    ∷ (1 ∷ 1 ∷ 0 ∷ 0 ∷ 0 ∷ 1 ∷ 1 ∷ 0 ∷ 0 ∷ 0 ∷ [])
    -- and slot 1's would, not by a drop of it; nor slot 2's by a drop, a reserve and a start
    ∷ (1 ∷ 1 ∷ 0 ∷ 0 ∷ 0 ∷ 0 ∷ 0 ∷ 1 ∷ 1 ∷ 0 ∷ [])
    ∷ (1 ∷ 1 ∷ 0 ∷ 0 ∷ 0 ∷ 0 ∷ 0 ∷ 0 ∷ 0 ∷ 0 ∷ [])
    -- the use ends
    ∷ (0 ∷ 0 ∷ 0 ∷ [])
    ∷ (1 ∷ 1 ∷ 0 ∷ 0 ∷ 0 ∷ 0 ∷ 0 ∷ 0 ∷ 0 ∷ 0 ∷ [])
    -- a commit that is refused is none
    ∷ (0 ∷ 1 ∷ [])
    ∷ (2 ∷ 0 ∷ 3 ∷ 1 ∷ 2 ∷ [])
    ∷ []
