-- One cause more.
use mathlib.Core.Path.{sym, ap, ◌∙◌}
use mathlib.Core.Bool.{not}
use Rattle.std.specs.Prelude.{Ok, Err}
use Rattle.std.proofs.lemmas.Result.{err_from_is_err_and}
use Rattle.model_types.specs.declared.error.Error.TheVariants.{SlotIdle}
use Rattle.model_types.specs.declared.memory.Slot.{Slot}
use Rattle.model_types.specs.Memory.{is_active}
use Rattle.model.specs.Rules.CauseLists.{ready_causes}
use Rattle.model.specs.Rules.Valid.{valid}
use Rattle.model.specs.Rules.Causes.{slot_inactive, slot_active}
use Rattle.model.proofs.Laws.Calls.Turns.{held, passed, ended, refused-before, passed-before}
use Rattle.verdicts.proofs.Laws.Ready.{pass, hands-on, slot-is}
use Rattle.verdicts.proofs.ready.active.Goals as goal

pub returns-in_err-ready-clause-answers : goal.returns-in_err-ready-clause-answers
returns-in_err-ready-clause-answers c =
    let m = c.args.memory.now in
    let out = err_from_is_err_and c.from_residual.result c.from_residual.ensures.1 in
    out.1 ∙ ap Err out.2 ∙ refused-before _ _ (ready_causes (valid m) m.pending c.args.slot) _ _ (sym c.in_err-ready.ensures.answers)

pub returns-then-not-is_active-clause-answers : goal.returns-then-not-is_active-clause-answers
unfolding slot_inactive slot_active
returns-then-not-is_active-clause-answers c =
    let m = c.args.memory.now in
    let told = pass c.in_ok-ready.ensures.answers in
    let state = ap (λ (slot : Slot). is_active slot.state) (slot-is _ c.in_ok-ready.ensures.shape told.at-is c.in_ok-ready.ensures.below) in
    passed-before _ _ (ready_causes (valid m) m.pending c.args.slot) _ _ (sym c.in_ok-ready.ensures.answers)
    (held _ SlotIdle _ (ap not (sym state ∙ sym c.is_active.ensures ∙ c.if-not-is_active.true)))

pub returns-clause-answers : goal.returns-clause-answers
unfolding slot_inactive slot_active
returns-clause-answers c =
    let m = c.args.memory.now in
    let told = pass c.in_ok-ready.ensures.answers in
    let state = ap (λ (slot : Slot). is_active slot.state) (slot-is _ c.in_ok-ready.ensures.shape told.at-is c.in_ok-ready.ensures.below) in
    passed-before _ _ (ready_causes (valid m) m.pending c.args.slot) _ _ (sym c.in_ok-ready.ensures.answers)
    (passed _ SlotIdle _ (ap not (sym state ∙ sym c.is_active.ensures ∙ c.if-not-is_active.false)) (ap Ok (hands-on told) ∙ ended _))
