-- How long a reservation holds. Document 02, job 7: "until a cut wipes the claims, an open station may always allocate up to its
-- claim". Here whatever calls of whichever slots stand before, and come in between. That every call keeps the reservations available,
-- and no more drawn than taken, is part of AlwaysInOrder: both are clauses of a valid memory.
use Rattle.std.specs.Prelude.{ℕ, ◌<◌, ◌≡◌, Bool, true, false, ◌&&◌, List, length, eqb}
use Rattle.bitmap.specs.Sizes.{slot_count}
use Rattle.model_types.specs.declared.memory.Memory.{Memory}
use Rattle.model_types.specs.declared.memory.SlotState.TheVariants.{Idle}
use Rattle.model_types.specs.declared.memory.Pending.{Pending}
use Rattle.model.specs.Types.{Ok}
use Rattle.model_types.specs.Memory.{slot_at, reserve_at}
use Rattle.model.specs.Rules.Pending.{is_commit_of}
use Rattle.model.specs.Rules.Calls.Reserve.{reserve_answer}
use Rattle.model.specs.Promises.Reservations.{MayAsk, Allocates, changes_reservation}
use Rattle.model.specs.Rules.Outcome.{Call, reserve_call}
use Rattle.model.specs.Rules.Work.{Work, open_work, crash_work, store_work, begin_work, change_work, bearing}
use Rattle.crash_safety.specs.World.{World, step, run, Without}
use Rattle.crash_safety.specs.InOrder.{InUse, AfterEvery}

-- there is a reserve for each slot
abbrev pub EightReserves : Type 0
EightReserves = AfterEvery (λ w. length w.memory.reserves ≡ slot_count)

-- an open slot may allocate up to its own
abbrev pub MayAllocate : Memory → ℕ → Type 0
MayAllocate memory s = (count : ℕ) (list : List ℕ) → MayAsk memory s count list → Allocates memory s count list

-- after every list of calls, in use
abbrev pub MayAlwaysAllocateInUse : Type 0
MayAlwaysAllocateInUse = AfterEvery (λ w. InUse w → (s : ℕ) → MayAllocate w.memory s)

-- after every list of calls: calls that do no work which may change the slot's reservation leave it (changes_reservation in
-- crates/model/specs/Promises/Reservations.antt: an open, a crash, and of this slot a reserve, a grant and a rollback), whatever the other slots
-- take, commit and drop, and whatever this one is refused
abbrev pub ReservationKept : Type 0
ReservationKept =
    AfterEvery (λ w. (s : ℕ) (calls : List Call) → Without (changes_reservation s) calls w
    → (reserve_at (run calls w).memory s).reservation ≡ (reserve_at w.memory s).reservation)

-- slot s has this reservation, and may allocate up to it once it is open
pub record Has (s reservation : ℕ) (w : World) : Type 0 where
  pub reserved : (reserve_at w.memory s).reservation ≡ reservation
  pub allocates : MayAllocate w.memory s

-- and after every list of calls: where a slot is given a reservation, it has it after all such calls
abbrev pub ReserveHolds : Type 0
ReserveHolds =
    AfterEvery (λ w. (s reservation : ℕ) → reserve_answer w.memory s reservation ≡ Ok tt
    → (calls : List Call) → Without (changes_reservation s) calls (step (reserve_call s reservation) w)
    → Has s reservation (run calls (step (reserve_call s reservation) w)))

-- whether a work is an open or a crash, or a reserve or a commit of slot s
unfoldable pub settles : ℕ → Work → Pending → Bool
settles s open_work pending = true
settles s crash_work pending = true
settles s store_work pending = false
settles s (begin_work new) pending = is_commit_of s new
settles s (change_work t change) pending = eqb t s && (bearing change).sets_aside

-- and after every list of calls, in use: "a drop or revoke puts back what that transaction used of it". Whatever an idle slot takes in
-- calls that do no such work, if it is idle after them it has its whole reservation again
abbrev pub PutBackWhole : Type 0
PutBackWhole =
    AfterEvery (λ w. InUse w → (s : ℕ) → s < slot_count → (slot_at w.memory s).state ≡ Idle
    → (calls : List Call) → Without (settles s) calls w → (slot_at (run calls w).memory s).state ≡ Idle
    → (reserve_at (run calls w).memory s).reservation ≡ (reserve_at w.memory s).reservation)
