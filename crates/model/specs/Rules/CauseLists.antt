-- The lists of causes that calls share, each "Checked in number order", told by the parts of a memory that code tests. A call's own
-- list, in Calls/, is made of these, of the parts of its memory.
use Rattle.std.specs.Prelude.{ℕ, Bool, List, [], ◌∷◌, ◌++◌}
use Rattle.model.specs.Types.{SlotState, Pending, Memory, MemoryInvalid, DiskLength, DiskMismatch, WorkPending, NothingPending, SlotRange, SlotBusy, SlotIdle, SlotPrecommitted, SlotNotPrecommitted, CountRange, ListShort, TooFewAvailable, BlockRange, BlockFree, BlockFreeing, OverReserved, ReservedForOthers}
use Rattle.model.specs.Rules.First.{Cause, ◌⇒◌}
use Rattle.model_types.specs.Memory.{slot_at}
use Rattle.model.specs.Rules.Valid.{valid}
use Rattle.model.specs.Rules.Causes.{memory_invalid, disk_length_wrong, disk_mismatched, nothing_pending, work_pending, slot_out_of_range, slot_active, slot_inactive, slot_precommitted, slot_not_precommitted, count_out_of_range, count_too_large, list_short, too_few_available, block_out_of_range, block_free, block_freeing, over_reserved, reserved_for_others}

-- ---- with which the lists of the eight transaction calls, of commit cost and of reserve start

-- 1, 8 and 10: all of them
abbrev pub ready_causes : Bool → Pending → ℕ → List Cause
ready_causes sound pending s =
    memory_invalid sound ⇒ MemoryInvalid
    ∷ work_pending pending ⇒ WorkPending
    ∷ slot_out_of_range s ⇒ SlotRange
    ∷ []

-- 1, 8, 10 and 11: start and reserve
abbrev pub idle_causes : Bool → Pending → ℕ → SlotState → List Cause
idle_causes sound pending s state = ready_causes sound pending s ++ (slot_active state ⇒ SlotBusy ∷ [])

-- 1, 8, 10 and 12: all but start and reserve
abbrev pub active_causes : Bool → Pending → ℕ → SlotState → List Cause
active_causes sound pending s state = ready_causes sound pending s ++ (slot_inactive state ⇒ SlotIdle ∷ [])

-- 1, 8, 10, 12 and 13: allocate, of an extent or not, deallocate, precommit, drop and commit cost
abbrev pub open_causes : Bool → Pending → ℕ → SlotState → List Cause
open_causes sound pending s state = active_causes sound pending s state ++ (slot_precommitted state ⇒ SlotPrecommitted ∷ [])

-- 1, 8, 10, 12 and 14: commit and revoke
abbrev pub precommitted_causes : Bool → Pending → ℕ → SlotState → List Cause
precommitted_causes sound pending s state = active_causes sound pending s state ++ (slot_not_precommitted state ⇒ SlotNotPrecommitted ∷ [])

-- each of them, of a memory and its slot s
abbrev pub of_slot : (Bool → Pending → ℕ → SlotState → List Cause) → Memory → ℕ → List Cause
of_slot causes memory s = causes (valid memory) memory.pending s (slot_at memory s).state

-- ---- how they go on, for a count of blocks and so many available: allocate, of an extent or not, and commit cost

-- 15 and 16: allocate, of an extent or not
abbrev pub count_causes : ℕ → List ℕ → List Cause
count_causes count list =
    count_out_of_range count ⇒ CountRange
    ∷ list_short list count ⇒ ListShort
    ∷ []

-- 24, "last, for runs and Job 2's foretelling too" (document 02, job 7): all three; so much is reserved for the other slots
abbrev pub spare_causes : ℕ → ℕ → ℕ → List Cause
spare_causes available count reserved = reserved_for_others available count reserved ⇒ ReservedForOthers ∷ []

-- 17 and 24: allocate and commit cost
abbrev pub enough_causes : ℕ → ℕ → ℕ → List Cause
enough_causes available count reserved =
    too_few_available available count ⇒ TooFewAvailable
    ∷ spare_causes available count reserved

-- 15, 16, 17 and 24: allocate
abbrev pub grant_causes : ℕ → ℕ → List ℕ → ℕ → List Cause
grant_causes available count list reserved = count_causes count list ++ enough_causes available count reserved

-- 15, 16 and 18: an extent, "allocate's without 17, then 18 for the named block" (job 4); 22 and 24 come behind
abbrev pub request_causes : ℕ → ℕ → ℕ → List ℕ → List Cause
request_causes blocks count near list = count_causes count list ++ (block_out_of_range blocks near ⇒ BlockRange ∷ [])

-- 15, 17 and 24: commit cost, "as for allocate, but a count of 0 passes and no list is lent" (job 2)
abbrev pub cost_causes : ℕ → ℕ → ℕ → List Cause
cost_causes available count reserved = count_too_large count ⇒ CountRange ∷ enough_causes available count reserved

-- ---- store's

-- 1, 2, 6 and 9
abbrev pub store_causes : Bool → ℕ → List ℕ → List ℕ → List ℕ → Pending → List Cause
store_causes sound blocks sam new disk pending =
    memory_invalid sound ⇒ MemoryInvalid
    ∷ disk_length_wrong disk ⇒ DiskLength
    ∷ disk_mismatched blocks sam new disk pending ⇒ DiskMismatch
    ∷ nothing_pending pending ⇒ NothingPending
    ∷ []

-- ---- how deallocate's goes on, and reserve's

-- 18, 19 and 20
abbrev pub block_causes : ℕ → List ℕ → List ℕ → ℕ → List Cause
block_causes blocks sam «com» b =
    block_out_of_range blocks b ⇒ BlockRange
    ∷ block_free sam b ⇒ BlockFree
    ∷ block_freeing sam «com» b ⇒ BlockFreeing
    ∷ []

-- 23, where all reservations would add up to so much
abbrev pub room_causes : ℕ → ℕ → List Cause
room_causes available total = over_reserved available total ⇒ OverReserved ∷ []
