-- A reservation holds, whatever works come in between that leave it (specs/Reservations.antt).
use Prim.Native.Nat.{ℕ, ◌<◌}
use native.Mathlib.Omega.{arith}
use mathlib.Core.Path.{◌≡◌, refl, sym, ap, ◌∙◌}
use mathlib.Core.Logic.{inl, ⊎_elim}
use mathlib.Core.Bool.{false, true≢false}
use mathlib.Core.List.{List}
use lib.ListN.{length}
use Rattle.bitmap.specs.Sizes.{slot_count}
use Rattle.model_types.specs.declared.memory.Pending.{Pending}
use Rattle.model_types.specs.Memory.{reserve_at}
use Rattle.model.specs.Rules.Calls.Format.{format_disk}
use Rattle.model.specs.Rules.Calls.Reserve.{reserve_error, reserve_answer}
use Rattle.model.specs.Rules.Outcome.{Call, outcome, reserve_call}
use Rattle.model.specs.Rules.Work.{Work, crash_work}
use Rattle.model.specs.Promises.Reservations.{changes_reservation}
use Rattle.model.proofs.Laws.Calls.Answered.{told-done}
use Rattle.model.proofs.Laws.Calls.Accepted.{reserve-accepted}
use Rattle.model.proofs.Laws.Promises.Reservations.{may-always-allocate, reserve-sets}
use Rattle.model.proofs.Laws.Promises.ReservationStays.{eight-worked, reservation-worked}
use Rattle.crash_safety.specs.World.{World, begin, step, run, Without}
use Rattle.crash_safety.specs.InOrder.{InUse}
use Rattle.crash_safety.specs.Reservations.{EightReserves, MayAllocate, MayAlwaysAllocateInUse, ReservationKept, ReserveHolds}
use Rattle.crash_safety.proofs.Invariant.{Invariant}
use Rattle.crash_safety.proofs.Works.{by-works, by-failing}
use Rattle.crash_safety.proofs.Keeps.{step_keeps, run-keeps, begins-formatted}
use Rattle.crash_safety.proofs.InOrder.Always.{step-uses, uses-without, valid-uses, run-in-order}

-- ---- one for each slot

pub eight-reserves : EightReserves
eight-reserves blocks some_blocks few disk size calls =
    by-works (λ v. length v.memory.reserves ≡ slot_count) (λ v call new m eight. eight-worked v.memory eight new v.disk) calls
    (begin (format_disk disk blocks)) refl

-- ---- in use

in-use-allocates : (w : World) → InUse w → (s : ℕ) → MayAllocate w.memory s
in-use-allocates w c = may-always-allocate w.memory c.is_valid

pub may-always-allocate-in-use : MayAlwaysAllocateInUse
may-always-allocate-in-use blocks some_blocks few disk size calls = in-use-allocates (run calls (begin (format_disk disk blocks)))

-- ---- works that leave a reservation

-- none of them is a crash, so a world in use stays so
leaves-use : (s : ℕ) (new : Work) (pending : Pending) → changes_reservation s new pending ≡ false → new ≡ crash_work → ⊥
unfolding changes_reservation
leaves-use s new pending f e = true≢false (sym (ap (λ (x : Work). changes_reservation s x pending) e) ∙ f)

run-kept : (s : ℕ) (calls : List Call) (w : World) → Without (changes_reservation s) calls w
    → (reserve_at (run calls w).memory s).reservation ≡ (reserve_at w.memory s).reservation
run-kept s calls w without =
    by-failing (λ v. (reserve_at v.memory s).reservation ≡ (reserve_at w.memory s).reservation) (changes_reservation s)
    (λ v call new m f same. reservation-worked s v.memory new v.disk f ∙ same) calls w without refl

pub reservation-kept : ReservationKept
reservation-kept blocks some_blocks few disk size before s calls = run-kept s calls (run before (begin (format_disk disk blocks)))

-- ---- a reserve

-- a memory that accepts a reserve is valid, so the world is in use, and stays so
pub reserve-holds : ReserveHolds
unfolding reserve_answer step outcome
reserve-holds blocks some_blocks few disk size before s reservation answered calls without =
    let first : World = begin (format_disk disk blocks) in
    let w : World = run before first in
    let begins = begins-formatted blocks some_blocks few disk size in
    let i : Invariant w = run-keeps before first begins in
    let a = reserve-accepted w.memory s reservation (told-done (reserve_error w.memory s reservation) answered) in
    let used = valid-uses w (run-in-order before first begins (inl refl)) a.ready.is_valid in
    let next : World = step (reserve_call s reservation) w in
    let next-used : InUse next = ⊎_elim (λ e. absurd (true≢false (cc))) (λ u. u) (step-uses (reserve_call s reservation) w i used) in
    let there : s < length w.memory.reserves = omega (arith, a.ready.below, eight-reserves blocks some_blocks few disk size before) in
    record {
      reserved = run-kept s calls next without ∙ reserve-sets w.memory s reservation there answered;
      allocates = in-use-allocates (run calls next) (uses-without (changes_reservation s) (leaves-use s) calls next without (step_keeps (reserve_call s reservation) w i) next-used) s;
    }
