-- What drop and revoke promise (specs/Promises/DropRevoke.antt).
use Prim.Native.Nat.{ℕ, ◌<◌}
use mathlib.Core.Path.{◌≡◌, refl, sym, ap, ◌∙◌}
use mathlib.Core.Bool.{true, false≢true}
use mathlib.Core.Option.{Option, none, some}
use borrow.Author.Tests.{lt-ltb}
use Rattle.bitmap.specs.Sizes.{slot_count, slot_in_range}
use Rattle.model.specs.Types.{Error, SlotState, Idle, Open, Precommitted, Nothing, Memory}
use Rattle.model.specs.Rules.First.{first, first_or, unless_refused}
use Rattle.model_types.specs.Answers.{answer}
use Rattle.model_types.specs.Memory.{slot_at, idle_slot, is_precommitted, with_com}
use Rattle.model_types.specs.Pending.{is_nothing}
use Rattle.model.specs.Rules.Causes.{memory_invalid, nothing_pending, work_pending, slot_out_of_range, slot_active, slot_inactive, slot_precommitted, slot_not_precommitted}
use Rattle.model.specs.Rules.Valid.{valid}
use Rattle.model.specs.Rules.Reserves.{put_back}
use Rattle.model.specs.Rules.Rollback.{rolled_back_com, rolled_back}
use Rattle.model.specs.Rules.Calls.Drop.{drop_error, drop_answer, drop_memory}
use Rattle.model.specs.Rules.Calls.Revoke.{revoke_error, revoke_answer, revoke_memory}
use Rattle.model.specs.Promises.DropRevoke.{RollsBack, DropEndsOpen, RevokeEndsPrecommitted, DropSparesPrecommitted, RevokeSparesOpen, drop_for, revoke_for, AnswersByState}
use Rattle.model.proofs.Laws.Memory.Fields.{open-state, precommitted-state, active-there, slot_same, slot-other}
use Rattle.model.proofs.Laws.Calls.Answered.{told-done, told-answer}
use Rattle.model.proofs.Laws.Calls.Accepted.{RollbackAccepted, drop-accepted, drop-rolls-back, revoke-accepted, revoke-rolls-back}
use Rattle.model.proofs.Laws.Memory.Valid.{valid-parts}
use Rattle.model.proofs.Laws.Memory.Rollback.{rolled-back-bits}

-- the one piece of work
rolls_back : (memory : Memory) (s : ℕ) → RollbackAccepted memory s → RollsBack memory s (rolled_back memory s)
unfolding rolled_back put_back
rolls_back memory s a =
    let changed = with_com memory (rolled_back_com memory s) in
    record {
      idle = slot_same changed s idle_slot (active-there memory s a.active);
      com_bits = rolled-back-bits memory (valid-parts memory a.ready.is_valid) s;
      same_blocks = refl;
      same_cursor = refl;
      same_sam = refl;
      other_slots = slot-other changed s idle_slot;
      reserves = refl;
      same_pending = refl;
    }

pub drop-ends-open : DropEndsOpen
unfolding drop_answer drop_memory unless_refused
drop-ends-open memory s e =
    let accepted : drop_error memory s ≡ none = told-done _ e in
    let a = drop-accepted memory s accepted in
    rw accepted (record { meant = open-state _ a.active a.not_precommitted; rolls_back = rolls_back memory s (drop-rolls-back memory s accepted) })

pub revoke-ends-precommitted : RevokeEndsPrecommitted
unfolding revoke_answer revoke_memory unless_refused
revoke-ends-precommitted memory s e =
    let accepted : revoke_error memory s ≡ none = (told-answer _ 0 0 e).0 in
    rw accepted
    (record {
      meant = precommitted-state _ (revoke-accepted memory s accepted).precommitted;
      rolls_back = rolls_back memory s (revoke-rolls-back memory s accepted);
    })

-- a call that isn't accepted alters nothing
spares : (error : Option Error) (memory new : Memory) → (error ≡ none → ⊥) → unless_refused error new memory ≡ memory
unfolding unless_refused
spares none memory new refused = absurd (refused refl)
spares (some error) memory new refused = refl

pub drop-spares-precommitted : DropSparesPrecommitted
unfolding drop_memory
drop-spares-precommitted memory s e =
    spares (drop_error memory s) memory _ (λ accepted. false≢true (sym (drop-accepted memory s accepted).not_precommitted ∙ ap is_precommitted e))

pub revoke-spares-open : RevokeSparesOpen
unfolding revoke_memory
revoke-spares-open memory s e =
    spares (revoke_error memory s) memory _ (λ accepted. false≢true (sym (ap is_precommitted e) ∙ (revoke-accepted memory s accepted).precommitted))

-- where 1, 8 and 10 don't hold the state is all that is left to decide
module _ (memory : Memory) (s : ℕ) (is_valid : valid memory ≡ true) (nothing : memory.pending ≡ Nothing) (below : s < slot_count) where
  drop-by-state : (state : SlotState) → (slot_at memory s).state ≡ state → drop_answer memory s ≡ drop_for state
  unfolding drop_answer drop_error answer first first_or memory_invalid work_pending nothing_pending is_nothing slot_out_of_range slot_in_range slot_inactive slot_active slot_precommitted
  drop-by-state Idle e = rw (is_valid, nothing, lt-ltb s slot_count below, e)
  drop-by-state Open e = rw (is_valid, nothing, lt-ltb s slot_count below, e)
  drop-by-state Precommitted e = rw (is_valid, nothing, lt-ltb s slot_count below, e)

  revoke-by-state : (state : SlotState) → (slot_at memory s).state ≡ state → revoke_answer memory s ≡ revoke_for state
  unfolding revoke_answer revoke_error answer first first_or memory_invalid work_pending nothing_pending is_nothing slot_out_of_range slot_in_range slot_inactive slot_active slot_precommitted slot_not_precommitted
  revoke-by-state Idle e = rw (is_valid, nothing, lt-ltb s slot_count below, e)
  revoke-by-state Open e = rw (is_valid, nothing, lt-ltb s slot_count below, e)
  revoke-by-state Precommitted e = rw (is_valid, nothing, lt-ltb s slot_count below, e)

pub answers-by-state : AnswersByState
answers-by-state memory is_valid s nothing below =
    record { drops = drop-by-state memory s is_valid nothing below _ refl; revokes = revoke-by-state memory s is_valid nothing below _ refl }
