-- An idle slot that takes blocks and gives its transaction up has its whole reservation again (specs/Reservations.antt).
use Prim.Native.Nat.{ℕ, ◌<◌}
use native.Mathlib.Omega.{arith}
use mathlib.Core.Path.{◌≡◌, refl, sym, ap, ◌∙◌}
use mathlib.Core.Bool.{true, false, true≢false}
use borrow.Author.Tests.{ne_eqb}
use Rattle.bitmap.specs.Sizes.{slot_count}
use Rattle.model_types.specs.declared.memory.Memory.{Memory}
use Rattle.model_types.specs.declared.memory.SlotState.TheVariants.{Idle}
use Rattle.model_types.specs.declared.memory.Pending.{Pending}
use Rattle.model_types.specs.declared.memory.Pending.TheVariants.{Nothing, Commit, Recovery}
use Rattle.model_types.specs.Memory.{slot_at, is_precommitted, reserve_at}
use Rattle.model.specs.Rules.Pending.{is_commit_of}
use Rattle.model.specs.Rules.Valid.{pending_valid, valid}
use Rattle.model.specs.Rules.Calls.Format.{format_disk}
use Rattle.model.specs.Rules.Outcome.{Call}
use Rattle.model.specs.Rules.Work.{Work, open_work, crash_work, store_work, begin_work, change_work}
use Rattle.model.specs.Promises.Reservations.{together, changes_together}
use Rattle.model.proofs.Laws.Promises.Reservations.{idle-draws-none}
use Rattle.model.proofs.Laws.Promises.ReservationStays.{together-worked}
use Rattle.model.proofs.Laws.Works.Work.{Made, Fails}
use Rattle.model.proofs.Laws.Works.CommitOf.{elsewhere-worked}
use Rattle.model.proofs.Laws.Memory.Valid.{valid-parts}
use Rattle.model.proofs.Laws.Works.Pending.{commit-parts}
use Rattle.crash_safety.specs.World.{World, begin, run}
use Rattle.crash_safety.specs.Reservations.{settles, PutBackWhole}
use Rattle.crash_safety.proofs.Works.{after, by-failing}
use Rattle.crash_safety.proofs.Keeps.{run-keeps, begins-formatted}
use Rattle.crash_safety.proofs.InOrder.Always.{uses-without}

-- what is reserved and drawn for slot s is so much together, and its commit isn't pending
record Whole (s total : ℕ) (w : World) : Type 0 where
  pub sum : together w.memory s ≡ total
  pub elsewhere : is_commit_of s w.memory.pending ≡ false

-- no other work than those that settle it changes that
leaves-whole : (s : ℕ) (new : Work) (pending : Pending) → settles s new pending ≡ false → is_commit_of s pending ≡ false → changes_together s new pending ≡ false
unfolding settles changes_together
leaves-whole s open_work pending f e = f
leaves-whole s crash_work pending f e = f
leaves-whole s store_work pending f e = e
leaves-whole s (begin_work new) pending f e = f
leaves-whole s (change_work t change) pending f e = f

-- none of them is a commit of the slot, or a crash
no-commit : (s : ℕ) (new : Work) (pending : Pending) → settles s new pending ≡ false → (p : Pending) → new ≡ begin_work p → is_commit_of s p ≡ false
unfolding settles
no-commit s new pending f p e = sym (ap (λ (x : Work). settles s x pending) e) ∙ f

no-crash : (s : ℕ) (new : Work) (pending : Pending) → settles s new pending ≡ false → new ≡ crash_work → ⊥
unfolding settles
no-crash s new pending f e = true≢false (sym (ap (λ (x : Work). settles s x pending) e) ∙ f)

work-whole : (s total : ℕ) (w : World) (call : Call) (new : Work) → Made call new w.memory w.disk → Fails (settles s) new w.memory
    → Whole s total w → Whole s total (after new w)
work-whole s total w call new m f whole =
    record {
      sum = together-worked s w.memory new w.disk (leaves-whole s new w.memory.pending f whole.elsewhere) ∙ whole.sum;
      elsewhere = elsewhere-worked s new w.memory w.disk (no-commit s new w.memory.pending f) whole.elsewhere;
    }

-- of an idle slot no commit is pending, and it has drawn nothing
module _ (memory : Memory) (is_valid : valid memory ≡ true) (s : ℕ) (idle : (slot_at memory s).state ≡ Idle) where
  idle-elsewhere : (pending : Pending) → pending_valid memory pending ≡ true → is_commit_of s pending ≡ false
  idle-elsewhere Nothing v = refl
  idle-elsewhere (Recovery done due) v = refl
  idle-elsewhere (Commit t done due) v =
      ne_eqb t s
      (λ e. true≢false (sym (commit-parts memory t done due v).precommitted ∙ ap (λ (x : ℕ). is_precommitted (slot_at memory x).state) e ∙ ap is_precommitted idle))

  idle-sum : s < slot_count → together memory s ≡ (reserve_at memory s).reservation
  idle-sum below = omega (arith, idle-draws-none memory is_valid s below idle)

pub put-back-whole : PutBackWhole
put-back-whole blocks some_blocks few disk size before c s below idle calls without still =
    let first : World = begin (format_disk disk blocks) in
    let w : World = run before first in
    let i = run-keeps before first (begins-formatted blocks some_blocks few disk size) in
    let pending = (valid-parts w.memory c.is_valid).pending_fits in
    let whole = by-failing (Whole s (together w.memory s)) (settles s) (work-whole s (together w.memory s)) calls w without (record { sum = refl; elsewhere = idle-elsewhere w.memory c.is_valid s idle w.memory.pending pending }) in
    let later = uses-without (settles s) (no-crash s) calls w without i c in
    sym (idle-sum (run calls w).memory later.is_valid s still below) ∙ whole.sum ∙ idle-sum w.memory c.is_valid s idle below
