-- Cause 1 by the memory's test, and two causes behind it.
use mathlib.Core.Path.{sym, ap, ◌∙◌}
use mathlib.Core.Bool.{not}
use mathlib.Core.List.{List, [], ◌∷◌}
use Prim.Native.Nat.{ℕ}
use borrow.Author.Tests.{ltb-true}
use Rattle.std.specs.Prelude.{Ok, Err, Option}
use Rattle.std.proofs.lemmas.Result.{err_from_is_err_and}
use Rattle.model_types.specs.declared.error.Error.TheVariants.{MemoryInvalid, WorkPending, SlotRange}
use Rattle.model_types.specs.declared.memory.Memory.{Memory}
use Rattle.bitmap.specs.Sizes.{slot_in_range}
use Rattle.model.specs.Rules.First.{Cause, ◌⇒◌}
use Rattle.model.specs.Rules.Valid.{valid}
use Rattle.model.specs.Rules.Causes.{memory_invalid, work_pending, nothing_pending, slot_out_of_range}
use Rattle.model.specs.Rules.Calls.Status.{status_error}
use Rattle.model.proofs.Laws.Calls.Answered.{told-answer}
use Rattle.model.proofs.Laws.Calls.Turns.{held, passed, ended, refused-before, passed-before}
use Rattle.verdicts.specs.Ready.{ready_of}
use Rattle.verdicts.proofs.ready.there.Goals as goal

tested : Memory → List Cause
tested memory = memory_invalid (valid memory) ⇒ MemoryInvalid ∷ []

pub returns-in_err-counted-clause-answers : goal.returns-in_err-counted-clause-answers
unfolding status_error tested
returns-in_err-counted-clause-answers c =
    let out = err_from_is_err_and c.from_residual.result c.from_residual.ensures.1 in
    out.1 ∙ ap Err out.2 ∙ refused-before _ _ (tested c.args.memory.now) _ _ (sym c.check.ensures.answers ∙ c.in_err-counted.was)

pub returns-then-not-is_nothing-clause-answers : goal.returns-then-not-is_nothing-clause-answers
unfolding status_error tested work_pending nothing_pending
returns-then-not-is_nothing-clause-answers c =
    passed-before _ _ (tested c.args.memory.now) _ _ (sym c.check.ensures.answers ∙ c.in_ok-counted.was)
    (held _ WorkPending _ (ap not (sym c.is_nothing.ensures ∙ c.if-not-is_nothing.true)))

pub returns-then-not-slot_in_range-clause-answers : goal.returns-then-not-slot_in_range-clause-answers
unfolding status_error tested work_pending nothing_pending slot_out_of_range
returns-then-not-slot_in_range-clause-answers c =
    passed-before _ _ (tested c.args.memory.now) _ _ (sym c.check.ensures.answers ∙ c.in_ok-counted.was)
    (passed _ WorkPending _ (ap not (sym c.is_nothing.ensures ∙ c.if-not-is_nothing.false))
    (held _ SlotRange _ (ap not (sym c.slot_in_range.ensures ∙ c.if-not-slot_in_range.true))))

pub returns-clause-answers : goal.returns-clause-answers
unfolding status_error tested work_pending nothing_pending slot_out_of_range
returns-clause-answers c =
    passed-before _ _ (tested c.args.memory.now) _ _ (sym c.check.ensures.answers ∙ c.in_ok-counted.was)
    (passed _ WorkPending _ (ap not (sym c.is_nothing.ensures ∙ c.if-not-is_nothing.false))
    (passed _ SlotRange _ (ap not (sym c.slot_in_range.ensures ∙ c.if-not-slot_in_range.false))
    (ap (λ (counted : Option ℕ). Ok (record { at = c.args.slot; counted = counted }))
    (sym (told-answer (status_error c.args.memory.now) _ _ (sym c.check.ensures.answers ∙ c.in_ok-counted.was)).1)
    ∙ ended (ready_of c.args.memory.now c.args.slot))))

pub returns-clause-below : goal.returns-clause-below
unfolding slot_in_range
returns-clause-below c = ltb-true _ _ (sym c.slot_in_range.ensures ∙ c.if-not-slot_in_range.false)
