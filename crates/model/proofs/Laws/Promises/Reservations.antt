-- What reservations promise of a valid memory, of an allocate, of reserve and of what a grant and a rollback leave
-- (specs/Promises/Reservations.antt).
use Prim.Native.Nat.{ℕ, zero, suc, ◌+◌, ◌≤◌, ◌<◌}
use native.Mathlib.Nat.{le_refl}
use native.Mathlib.Omega.{arith}
use mathlib.Core.Path.{◌≡◌, refl, ap, ◌∙◌}
use mathlib.Core.Bool.{Bool, true, false, cond}
use mathlib.Core.Option.{Option, none, some}
use mathlib.Core.List.{List, [], ◌∷◌}
use lib.ListN.{length, get_or, set}
use lib.Seq.{get_or-set_same}
use lib.Dec.{ltb}
use borrow.Author.Tests.{lt-ltb, le-ltb}
use Rattle.bitmap.specs.Sizes.{slot_count, slot_in_range}
use Rattle.model.specs.Types.{Error, SlotState, Idle, Open, Precommitted, Nothing, Reserve, Memory, WorkPending, SlotBusy, OverReserved, Ok, Err}
use Rattle.model_types.specs.Answers.{answer}
use Rattle.model_types.specs.Memory.{slot_at, reserve_at, no_reserve, is_active}
use Rattle.model_types.specs.Pending.{is_nothing}
use Rattle.model.specs.Rules.First.{first, first_or, unless_refused}
use Rattle.model.specs.Rules.Available.{available}
use Rattle.model.specs.Rules.Reserves.{total_reserved, others_reserved, drawing, put_back, reserving}
use Rattle.model.specs.Rules.Rollback.{rolled_back}
use Rattle.model.specs.Rules.Valid.{valid}
use Rattle.model.specs.Rules.Causes.{of_available, memory_invalid, nothing_pending, work_pending, slot_out_of_range, slot_active, over_reserved}
use Rattle.model.specs.Rules.CauseLists.{room_causes}
use Rattle.model.specs.Rules.Calls.Start.{start_error}
use Rattle.model.specs.Rules.Calls.Allocate.{allocate_error, first_met, taking, allocate_answer, allocate_memory}
use Rattle.model.specs.Rules.Calls.AllocateExtent.{allocate_extent_error, allocate_extent_answer, allocate_extent_memory}
use Rattle.model.specs.Rules.Calls.Drop.{drop_error, drop_memory}
use Rattle.model.specs.Rules.Calls.Revoke.{revoke_error, revoke_memory}
use Rattle.model.specs.Rules.Calls.Reserve.{reserve_error, reserve_answer, reserve_memory}
use Rattle.model.specs.Rules.Calls.Status.{counts}
use Rattle.model.specs.Promises.Reservations.{MayAsk, MayAlwaysAllocate, ReservationsFit, IdleDrawsNone, ReserveAnswers, ReserveSets, Draws, GrantDraws, RollbackNeverLowers}
use Rattle.model.proofs.Laws.Calls.First.{cause-holds, cause-passed, no-cause, some-append, none-append}
use Rattle.model.proofs.Laws.Calls.Accepted.{is-nothing}
use Rattle.model.proofs.Laws.Calls.Answered.{told-done, told-answer}
use Rattle.model.proofs.Laws.Memory.Reserves.{total-set}
use Rattle.model.proofs.Laws.Memory.Valid.{valid-parts}
use Rattle.model.proofs.Laws.Memory.Fit.{idle-drawn}
use Rattle.model.proofs.Laws.Promises.FourCounts.{available-can-be-had}
use Rattle.model.proofs.Laws.Promises.Extents.{nearest-length}
use Rattle.model.proofs.Laws.Memory.Granting.{allocate-grants}
use Rattle.model.proofs.Laws.Promises.ForOthers.{both-fit}

-- ---- a valid memory

pub reservations-fit : ReservationsFit
unfolding counts
reservations-fit memory is_valid =
    record { all = (valid-parts memory is_valid).reserves_fit.total; others = λ s. omega (arith, both-fit memory is_valid s) }

pub idle-draws-none : IdleDrawsNone
idle-draws-none memory is_valid s below e = idle-drawn memory s (valid-parts memory is_valid) (ap is_active e) below

-- ---- an allocate up to the reservation

module _ (memory : Memory) (is_valid : valid memory ≡ true) (s count : ℕ) (list : List ℕ) (asks : MayAsk memory s count list) where
  is-granted : memory.pending ≡ Nothing → allocate_answer memory s count list ≡ Ok (get_or (first_met memory count) 0 0)
  unfolding counts
  is-granted nothing =
      (available-can-be-had memory is_valid).granted s count list
      (record {
        none_pending = nothing;
        below = asks.below;
        is_open = asks.is_open;
        some = asks.some;
        few = asks.few;
        room = asks.room;
      })
      (omega (arith, asks.reserved, both-fit memory is_valid s))

  -- 8 refuses it, whatever is pending
  is-delayed : (memory.pending ≡ Nothing → ⊥) → allocate_answer memory s count list ≡ Err WorkPending
  unfolding allocate_answer allocate_error answer first first_or memory_invalid work_pending nothing_pending
  is-delayed some-work = go (is_nothing memory.pending) refl
    where
      go : (t : Bool) → is_nothing memory.pending ≡ t → allocate_answer memory s count list ≡ Err WorkPending
      go true e = absurd (some-work (is-nothing memory.pending e))
      go false e = rw (is_valid, e)

pub may-always-allocate : MayAlwaysAllocate
may-always-allocate memory is_valid s count list asks =
    record {
      granted = is-granted memory is_valid s count list asks;
      delayed = is-delayed memory is_valid s count list asks;
    }

-- ---- reserve

-- what 23 compares
over-reserved : (memory : Memory) (s reservation : ℕ) → s < length memory.reserves
    → of_available over_reserved memory (total_reserved (reserving memory s reservation).reserves) ≡ ltb (length (available memory)) (reservation + others_reserved memory.reserves s)
unfolding over_reserved available reserving
over-reserved memory s reservation there = ap (ltb (length (available memory))) (total-set memory.reserves s _ there)

module _ (memory : Memory) (is_valid : valid memory ≡ true) (s reservation : ℕ) (nothing : memory.pending ≡ Nothing) (below : s < slot_count) where
  -- up to 11 its causes are start's, and of these the state decides
  start-by-state : (state : SlotState) → (slot_at memory s).state ≡ state → start_error memory s ≡ cond (is_active state) (some SlotBusy) none
  unfolding start_error first first_or memory_invalid work_pending nothing_pending is_nothing slot_out_of_range slot_in_range slot_active
  start-by-state Idle e = rw (is_valid, nothing, lt-ltb s slot_count below, e)
  start-by-state Open e = rw (is_valid, nothing, lt-ltb s slot_count below, e)
  start-by-state Precommitted e = rw (is_valid, nothing, lt-ltb s slot_count below, e)

  idle-decides : (slot_at memory s).state ≡ Idle → reserve_error memory s reservation ≡ first (of_available room_causes memory (total_reserved (reserving memory s reservation).reserves))
  unfolding reserve_error start_error
  idle-decides idle = none-append _ _ (start-by-state Idle idle)

  is-busy : (state : SlotState) → (slot_at memory s).state ≡ state → (state ≡ Idle → ⊥) → reserve_error memory s reservation ≡ some SlotBusy
  unfolding reserve_error start_error
  is-busy Idle e busy = absurd (busy refl)
  is-busy Open e busy = some-append _ _ SlotBusy (start-by-state Open e)
  is-busy Precommitted e busy = some-append _ _ SlotBusy (start-by-state Precommitted e)

pub reserve-answers : ReserveAnswers
unfolding counts reserve_answer answer
reserve-answers memory is_valid s reservation nothing below there =
    let compares = over-reserved memory s reservation there in
    record {
      busy = λ busy. ap (λ (e : Option Error). answer e tt) (is-busy memory is_valid s reservation nothing below (slot_at memory s).state refl busy);
      fits = λ idle few.
          ap (λ (e : Option Error). answer e tt)
          (idle-decides memory is_valid s reservation nothing below idle
          ∙ cause-passed _ OverReserved [] (compares ∙ le-ltb _ _ few)
          ∙ no-cause);
      exceeds = λ idle many.
          ap (λ (e : Option Error). answer e tt)
          (idle-decides memory is_valid s reservation nothing below idle
          ∙ cause-holds _ OverReserved [] (compares ∙ lt-ltb _ _ many));
    }

pub reserve-sets : ReserveSets
unfolding reserve_answer reserve_memory reserving unless_refused
reserve-sets memory s reservation there answered =
    rw (told-done (reserve_error memory s reservation) answered)
    (ap (λ (reserve : Reserve). reserve.reservation) (get_or-set_same memory.reserves s _ no_reserve there))

-- ---- what a grant draws, and a rollback puts back

-- a grant of so many blocks
taking-draws : (memory : Memory) (s count : ℕ) (blocks : List ℕ) → length blocks ≡ count → Draws memory s count (taking memory s blocks)
unfolding taking drawing
taking-draws memory s count blocks size = rw size

pub grant-draws : GrantDraws
unfolding allocate_answer allocate_memory allocate_extent_answer allocate_extent_memory unless_refused
grant-draws memory s count list =
    record {
      allocate = λ b answered.
          let e = (told-answer (allocate_error memory s count list) _ b answered).0 in
          rw e (taking-draws memory s count _ (allocate-grants memory s count list e).size);
      extent = λ near b answered.
          rw (told-answer (allocate_extent_error memory s count near list) _ b answered).0
          (taking-draws memory s count _ (nearest-length memory count near));
    }

-- a slot that is rolled back gets no less
put-back-le : (reserves : List Reserve) (t s : ℕ)
    → (get_or reserves s no_reserve).reservation ≤ (get_or (set reserves t (put_back (get_or reserves t no_reserve))) s no_reserve).reservation
unfolding put_back
put-back-le [] t s = le_refl _
put-back-le (reserve ∷ reserves) zero zero = omega arith
put-back-le (reserve ∷ reserves) zero (suc s) = le_refl _
put-back-le (reserve ∷ reserves) (suc t) zero = le_refl _
put-back-le (reserve ∷ reserves) (suc t) (suc s) = put-back-le reserves t s

-- whether it is or not
rolling-raises : (error : Option Error) (memory : Memory) (t s : ℕ)
    → (reserve_at memory s).reservation ≤ (reserve_at (unless_refused error (rolled_back memory t) memory) s).reservation
unfolding unless_refused rolled_back
rolling-raises none memory t s = put-back-le memory.reserves t s
rolling-raises (some error) memory t s = le_refl _

pub rollback-never-lowers : RollbackNeverLowers
unfolding drop_memory revoke_memory
rollback-never-lowers memory t s =
    record { drop = rolling-raises (drop_error memory t) memory t s; revoke = rolling-raises (revoke_error memory t) memory t s }
