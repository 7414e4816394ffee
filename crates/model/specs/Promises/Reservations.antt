-- What reservations promise. Document 02, job 7: "One busy till mustn't starve the rest." And "until a cut wipes the claims, an open
-- station may always allocate up to its claim, 1 to 64 a call into a list as long; store work in hand alone delays it."
use Rattle.std.specs.Prelude.{ℕ, ◌+◌, ◌-◌, ◌≤◌, ◌<◌, min, ◌≡◌, Bool, true, false, ◌&&◌, List, length, get_or, set, eqb}
use Rattle.bitmap.specs.Sizes.{slot_count, max_count}
use Rattle.model.specs.Types.{Idle, Open, Pending, Nothing, Memory, WorkPending, SlotBusy, OverReserved, ReservedForOthers, Ok, Err}
use Rattle.model_types.specs.Memory.{slot_at, reserve_at, reserve_of, no_reserves}
use Rattle.model.specs.Rules.Pending.{is_commit_of}
use Rattle.model.specs.Rules.Reserves.{total_reserved, others_reserved}
use Rattle.model.specs.Rules.Calls.Allocate.{first_met, allocate_answer, allocate_memory}
use Rattle.model.specs.Rules.Calls.AllocateExtent.{allocate_extent_answer, allocate_extent_memory}
use Rattle.model.specs.Rules.Calls.CommitCost.{commit_cost_answer}
use Rattle.model.specs.Rules.Calls.Drop.{drop_memory}
use Rattle.model.specs.Rules.Calls.Revoke.{revoke_memory}
use Rattle.model.specs.Rules.Calls.Reserve.{reserve_answer, reserve_memory}
use Rattle.model.specs.Rules.Calls.Status.{counts}
use Rattle.model.specs.Promises.FourCounts.{OfValid}
use Rattle.model.specs.Promises.Extents.{IsExtent}
use Rattle.model.specs.Rules.Outcome.{Call, open_call, crash_call, outcome}
use Rattle.model.specs.Rules.Work.{Work, open_work, crash_work, store_work, begin_work, change_work, bearing, works, some_work}

-- ---- what a slot can have

-- an allocate up to the slot's reservation: the slot is open, the count is 1 to 64 and the list is as long
pub record MayAsk (memory : Memory) (s count : ℕ) (list : List ℕ) : Type 0 where
  pub below : s < slot_count
  pub is_open : (slot_at memory s).state ≡ Open
  pub some : 1 ≤ count
  pub few : count ≤ max_count
  pub reserved : count ≤ (reserve_at memory s).reservation
  pub room : count ≤ length list

-- is granted; "store work in hand alone delays it"
pub record Allocates (memory : Memory) (s count : ℕ) (list : List ℕ) : Type 0 where
  pub granted : memory.pending ≡ Nothing → allocate_answer memory s count list ≡ Ok (get_or (first_met memory count) 0 0)
  pub delayed : (memory.pending ≡ Nothing → ⊥) → allocate_answer memory s count list ≡ Err WorkPending

abbrev pub MayAlwaysAllocate : Type 0
MayAlwaysAllocate = OfValid (λ memory. (s count : ℕ) (list : List ℕ) → MayAsk memory s count list → Allocates memory s count list)

-- no call that tests 24 is refused by it
pub record NeverForOthers (memory : Memory) (s count : ℕ) : Type 0 where
  pub allocate : (list : List ℕ) → allocate_answer memory s count list ≡ Err ReservedForOthers → ⊥
  pub extent : (near : ℕ) (list : List ℕ) → allocate_extent_answer memory s count near list ≡ Err ReservedForOthers → ⊥
  pub cost : commit_cost_answer memory s count ≡ Err ReservedForOthers → ⊥

-- so it is up to the slot's own reservation
abbrev pub OwnNotForOthers : Type 0
OwnNotForOthers = OfValid (λ memory. (s count : ℕ) → count ≤ (reserve_at memory s).reservation → NeverForOthers memory s count)

-- and of every memory, valid or not, with nothing reserved: who reserves nothing sees nothing of it
abbrev pub NoneForOthers : Type 0
NoneForOthers = (memory : Memory) → ((t : ℕ) → (reserve_at memory t).reservation ≡ 0) → (s count : ℕ) → NeverForOthers memory s count

-- 24 comes "last, for runs and Job 2's foretelling too": where it is answered, neither 17 nor 22 holds
pub record LastOfAll (memory : Memory) (s count : ℕ) : Type 0 where
  pub allocate : (list : List ℕ) → allocate_answer memory s count list ≡ Err ReservedForOthers → count ≤ (counts memory).available
  pub extent : (near : ℕ) (list : List ℕ) → allocate_extent_answer memory s count near list ≡ Err ReservedForOthers
      → (b : ℕ) × IsExtent memory count b
  pub cost : commit_cost_answer memory s count ≡ Err ReservedForOthers → count ≤ (counts memory).available

abbrev pub ReservedLast : Type 0
ReservedLast = (memory : Memory) (s count : ℕ) → LastOfAll memory s count

-- ---- what a valid memory has

-- all reservations are available together, so those of all slots but one are too
pub record Together (memory : Memory) : Type 0 where
  pub all : total_reserved memory.reserves ≤ (counts memory).available
  pub others : (s : ℕ) → others_reserved memory.reserves s ≤ (counts memory).available

abbrev pub ReservationsFit : Type 0
ReservationsFit = OfValid Together

-- an idle slot has drawn nothing
abbrev pub IdleDrawsNone : Type 0
IdleDrawsNone = OfValid (λ memory. (s : ℕ) → s < slot_count → (slot_at memory s).state ≡ Idle → (reserve_at memory s).drawn ≡ 0)

-- ---- reserve

-- "While a seat is idle it may be given a claim of r blocks": 11 if it isn't idle, and "23 if the claims would then exceed the
-- grantable blocks, after 11"; what the slot had before isn't counted
pub record ReservesByFit (memory : Memory) (s reservation : ℕ) : Type 0 where
  pub busy : ((slot_at memory s).state ≡ Idle → ⊥) → reserve_answer memory s reservation ≡ Err SlotBusy
  pub fits : (slot_at memory s).state ≡ Idle → reservation + others_reserved memory.reserves s ≤ (counts memory).available
      → reserve_answer memory s reservation ≡ Ok tt
  pub exceeds : (slot_at memory s).state ≡ Idle → (counts memory).available < reservation + others_reserved memory.reserves s
      → reserve_answer memory s reservation ≡ Err OverReserved

abbrev pub ReserveAnswers : Type 0
ReserveAnswers =
    OfValid (λ memory. (s reservation : ℕ) → memory.pending ≡ Nothing → s < slot_count → s < length memory.reserves → ReservesByFit memory s reservation)

-- the slot has it then
abbrev pub ReserveSets : Type 0
ReserveSets =
    (memory : Memory) (s reservation : ℕ) → s < length memory.reserves → reserve_answer memory s reservation ≡ Ok tt
    → (reserve_at (reserve_memory memory s reservation) s).reservation ≡ reservation

-- ---- what changes a reservation

-- "Each grant to it lowers the claim by the blocks granted, not below 0": what it was lowered by is drawn, and no other slot's changes
abbrev pub Draws : Memory → ℕ → ℕ → Memory → Type 0
Draws memory s count after =
    after.reserves
    ≡ set memory.reserves s
    (reserve_of ((reserve_at memory s).reservation - count) ((reserve_at memory s).drawn + min (reserve_at memory s).reservation count))

-- whichever call grants
pub record GrantsDraw (memory : Memory) (s count : ℕ) (list : List ℕ) : Type 0 where
  pub allocate : (b : ℕ) → allocate_answer memory s count list ≡ Ok b → Draws memory s count (allocate_memory memory s count list)
  pub extent : (near b : ℕ) → allocate_extent_answer memory s count near list ≡ Ok b
      → Draws memory s count (allocate_extent_memory memory s count near list)

abbrev pub GrantDraws : Type 0
GrantDraws = (memory : Memory) (s count : ℕ) (list : List ℕ) → GrantsDraw memory s count list

-- a drop or revoke of any slot lowers no slot's
pub record NeverLowers (memory : Memory) (t s : ℕ) : Type 0 where
  pub drop : (reserve_at memory s).reservation ≤ (reserve_at (drop_memory memory t) s).reservation
  pub revoke : (reserve_at memory s).reservation ≤ (reserve_at (revoke_memory memory t) s).reservation

abbrev pub RollbackNeverLowers : Type 0
RollbackNeverLowers = (memory : Memory) (t s : ℕ) → NeverLowers memory t s

-- after an open and after a crash nothing is reserved: "until a cut wipes the claims"
abbrev pub ReservationsWiped : Type 0
ReservationsWiped =
    (memory : Memory) (disk : List ℕ)
    → ((outcome open_call memory disk).memory.reserves ≡ no_reserves) × ((outcome crash_call memory disk).memory.reserves ≡ no_reserves)

-- whether a work may change the reservation of slot s: those, and a reserve, a grant and a rollback of this slot
unfoldable pub changes_reservation : ℕ → Work → Pending → Bool
changes_reservation s open_work pending = true
changes_reservation s crash_work pending = true
changes_reservation s store_work pending = false
changes_reservation s (begin_work new) pending = false
changes_reservation s (change_work t change) pending = eqb t s && (bearing change).alters

-- no other call does: none that is refused, none of another slot, no commit and none of its stores
abbrev pub ReservationStays : Type 0
ReservationStays =
    (s : ℕ) (call : Call) (memory : Memory) (disk : List ℕ)
    → some_work (changes_reservation s) (works call memory disk) memory disk ≡ false
    → (reserve_at (outcome call memory disk).memory s).reservation ≡ (reserve_at memory s).reservation

-- ---- a transaction that is given up

-- what is reserved for slot s, and what its transaction has drawn of it
abbrev pub together : Memory → ℕ → ℕ
together memory s = (reserve_at memory s).reservation + (reserve_at memory s).drawn

-- whether a work may change both together: an open, a crash, a reserve of this slot, its commit, and a store of that
unfoldable pub changes_together : ℕ → Work → Pending → Bool
changes_together s open_work pending = true
changes_together s crash_work pending = true
changes_together s store_work pending = is_commit_of s pending
changes_together s (begin_work new) pending = is_commit_of s new
changes_together s (change_work t change) pending = eqb t s && (bearing change).sets_aside

-- no other call does: what a grant takes from the one it adds to the other, and a drop or revoke puts it back
abbrev pub TogetherStays : Type 0
TogetherStays =
    (s : ℕ) (call : Call) (memory : Memory) (disk : List ℕ)
    → some_work (changes_together s) (works call memory disk) memory disk ≡ false
    → together (outcome call memory disk).memory s ≡ together memory s
