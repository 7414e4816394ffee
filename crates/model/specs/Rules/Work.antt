-- Works: what a call does to memory and disk, as data. A call does a list of works, one after the other: today one or none. Two calls may
-- do the same (allocate and allocate extent grant blocks), and a refused call and a question do none. What every work keeps every call
-- keeps, those to come too, and a call made of several as well.
use Rattle.std.specs.Prelude.{ℕ, Bool, true, false, ◌||◌, List, [], ◌∷◌, ◌++◌, length}
use Rattle.std.proofs.Math.Option.{Option}
use Rattle.model.specs.Types.{Error, Pending, Commit, Memory}
use Rattle.model_types.specs.Memory.{zero_memory}
use Rattle.model.specs.Rules.First.{unless_refused}
use Rattle.model.specs.Rules.Commit.{commit_due}
use Rattle.model.specs.Rules.Pending.{begun}
use Rattle.model.specs.Rules.Rollback.{rolled_back}
use Rattle.model.specs.Rules.Reserves.{reserving}
use Rattle.model.specs.Rules.Calls.Open.{open_error, opened}
use Rattle.model.specs.Rules.Calls.Start.{start_error, started}
use Rattle.model.specs.Rules.Calls.Allocate.{allocate_error, first_met, taking}
use Rattle.model.specs.Rules.Calls.AllocateExtent.{allocate_extent_error, nearest_extent}
use Rattle.model.specs.Rules.Calls.Deallocate.{deallocate_error, freeing}
use Rattle.model.specs.Rules.Calls.Precommit.{precommit_error, precommitting}
use Rattle.model.specs.Rules.Calls.Commit.{commit_error}
use Rattle.model.specs.Rules.Calls.Drop.{drop_error}
use Rattle.model.specs.Rules.Calls.Revoke.{revoke_error}
use Rattle.model.specs.Rules.Calls.Store.{store_error, advanced, next_stored}
use Rattle.model.specs.Rules.Calls.Reserve.{reserve_error}
use Rattle.model.specs.Rules.Completion.{State}
use Rattle.model.specs.Rules.Outcome.{Call, outcome, open_call, start_call, allocate_call, allocate_extent_call, deallocate_call, precommit_call, commit_call, drop_call, revoke_call, store_call, status_call, commit_cost_call, reserve_call, crash_call}

-- what becomes of one slot, with COM, the cursor and its reserve
pub data Change : Type 0 where
  start_change precommit_change drop_change revoke_change : Change
  grant_change : List ℕ → Change
  free_change reserve_change : ℕ → Change

-- an open, a crash, a store, pending work that begins (a commit), a change of one slot
pub data Work : Type 0 where
  open_work crash_work store_work : Work
  begin_work : Pending → Work
  change_work : ℕ → Change → Work

-- ---- what each leaves

-- the memory after a change of slot s
unfoldable pub changed : Change → Memory → ℕ → Memory
changed start_change memory s = started memory s
changed precommit_change memory s = precommitting memory s
changed drop_change memory s = rolled_back memory s
changed revoke_change memory s = rolled_back memory s
changed (grant_change blocks) memory s = taking memory s blocks
changed (free_change block) memory s = freeing memory s block
changed (reserve_change reservation) memory s = reserving memory s reservation

-- the memory after a work
unfoldable pub worked : Work → Memory → List ℕ → Memory
worked open_work memory disk = opened disk
worked crash_work memory disk = zero_memory
worked store_work memory disk = advanced memory memory.pending
worked (begin_work new) memory disk = begun memory new
worked (change_work s change) memory disk = changed change memory s

-- the disk after it: only a store changes it
unfoldable pub worked_disk : Work → Memory → List ℕ → List ℕ
worked_disk open_work memory disk = disk
worked_disk crash_work memory disk = disk
worked_disk store_work memory disk = next_stored memory disk
worked_disk (begin_work new) memory disk = disk
worked_disk (change_work s change) memory disk = disk

-- both after a list of works
unfoldable pub worked_all : List Work → Memory → List ℕ → State
worked_all [] memory disk = record { memory = memory; disk = disk }
worked_all (new ∷ rest) memory disk = worked_all rest (worked new memory disk) (worked_disk new memory disk)

-- ---- what a call does

-- a change, unless the call is refused
abbrev pub changing : Option Error → ℕ → Change → List Work
changing error s change = unless_refused error (change_work s change ∷ []) []

-- a call's works on this memory and disk; a refused open leaves what a crash does
unfoldable pub works : Call → Memory → List ℕ → List Work
works open_call memory disk = unless_refused (open_error disk) (open_work ∷ []) (crash_work ∷ [])
works (start_call s) memory disk = changing (start_error memory s) s start_change
works (allocate_call s count list) memory disk = changing (allocate_error memory s count list) s (grant_change (first_met memory count))
works (allocate_extent_call s count near list) memory disk =
    changing (allocate_extent_error memory s count near list) s (grant_change (nearest_extent memory count near))
works (deallocate_call s block) memory disk = changing (deallocate_error memory s block) s (free_change block)
works (precommit_call s) memory disk = changing (precommit_error memory s) s precommit_change
works (commit_call s) memory disk = unless_refused (commit_error memory s) (begin_work (Commit s 0 (commit_due memory s)) ∷ []) []
works (drop_call s) memory disk = changing (drop_error memory s) s drop_change
works (revoke_call s) memory disk = changing (revoke_error memory s) s revoke_change
works store_call memory disk = unless_refused (store_error memory disk) (store_work ∷ []) []
works status_call memory disk = []
works (commit_cost_call s count) memory disk = []
works (reserve_call s reservation) memory disk = changing (reserve_error memory s reservation) s (reserve_change reservation)
works crash_call memory disk = crash_work ∷ []

-- the works of calls made in turn
unfoldable pub works_in : List Call → Memory → List ℕ → List Work
works_in [] memory disk = []
works_in (call ∷ calls) memory disk =
    works call memory disk ++ works_in calls (outcome call memory disk).memory (outcome call memory disk).disk

-- ---- tests on works

-- whether one of these works passes a test, where it stands: the work, and what is pending before it
unfoldable pub some_work : (Work → Pending → Bool) → List Work → Memory → List ℕ → Bool
some_work test [] memory disk = false
some_work test (new ∷ rest) memory disk = test new memory.pending || some_work test rest (worked new memory disk) (worked_disk new memory disk)

-- how a change bears on cursor and reserves: it grants blocks, which moves the cursor; it alters the slot's reserve; it sets a reservation; it
-- gives a precommitted transaction up
pub record Bearing : Type 0 where
  pub grants : Bool
  pub alters : Bool
  pub sets_aside : Bool
  pub revokes : Bool

abbrev pub plain : Bearing
plain = record { grants = false; alters = false; sets_aside = false; revokes = false }

abbrev pub granting : Bearing
granting = record { grants = true; alters = true; sets_aside = false; revokes = false }

abbrev pub dropping : Bearing
dropping = record { grants = false; alters = true; sets_aside = false; revokes = false }

abbrev pub revoking : Bearing
revoking = record { grants = false; alters = true; sets_aside = false; revokes = true }

abbrev pub setting_aside : Bearing
setting_aside = record { grants = false; alters = true; sets_aside = true; revokes = false }

unfoldable pub bearing : Change → Bearing
bearing start_change = plain
bearing precommit_change = plain
bearing drop_change = dropping
bearing revoke_change = revoking
bearing (grant_change blocks) = granting
bearing (free_change block) = plain
bearing (reserve_change reservation) = setting_aside

-- how many blocks a change touches at most: a grant as many as it has, a free one
unfoldable pub blocks_touched : Change → ℕ
blocks_touched start_change = 0
blocks_touched precommit_change = 0
blocks_touched drop_change = 0
blocks_touched revoke_change = 0
blocks_touched (grant_change blocks) = length blocks
blocks_touched (free_change block) = 1
blocks_touched (reserve_change reservation) = 0
