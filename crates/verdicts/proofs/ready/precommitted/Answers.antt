-- One cause more.
use mathlib.Core.Path.{sym, ap, ◌∙◌}
use mathlib.Core.Bool.{not}
use Rattle.std.specs.Prelude.{Ok, Err}
use Rattle.std.proofs.lemmas.Result.{err_from_is_err_and}
use Rattle.model_types.specs.declared.error.Error.TheVariants.{SlotNotPrecommitted}
use Rattle.model_types.specs.declared.memory.Slot.{Slot}
use Rattle.model_types.specs.Memory.{is_precommitted}
use Rattle.model.specs.Rules.CauseLists.{active_causes, of_slot}
use Rattle.model.specs.Rules.Causes.{slot_not_precommitted, slot_precommitted}
use Rattle.model.specs.Rules.Calls.Commit.{commit_error}
use Rattle.model.proofs.Laws.Calls.Turns.{held, passed, ended, refused-before, passed-before}
use Rattle.verdicts.proofs.Laws.Ready.{pass, hands-on, slot-is}
use Rattle.verdicts.proofs.ready.precommitted.Goals as goal

pub returns-in_err-ready-clause-answers : goal.returns-in_err-ready-clause-answers
unfolding commit_error
returns-in_err-ready-clause-answers c =
    let m = c.args.memory.now in
    let out = err_from_is_err_and c.from_residual.result c.from_residual.ensures.1 in
    out.1 ∙ ap Err out.2 ∙ refused-before _ _ (of_slot active_causes m c.args.slot) _ _ (sym c.in_err-ready.ensures.answers)

pub returns-then-not-is_precommitted-clause-answers : goal.returns-then-not-is_precommitted-clause-answers
unfolding commit_error slot_not_precommitted slot_precommitted
returns-then-not-is_precommitted-clause-answers c =
    let m = c.args.memory.now in
    let told = pass c.in_ok-ready.ensures.answers in
    let state = ap (λ (slot : Slot). is_precommitted slot.state) (slot-is _ c.in_ok-ready.ensures.shape told.at-is c.in_ok-ready.ensures.below) in
    passed-before _ _ (of_slot active_causes m c.args.slot) _ _ (sym c.in_ok-ready.ensures.answers)
    (held _ SlotNotPrecommitted _ (ap not (sym state ∙ sym c.is_precommitted.ensures ∙ c.if-not-is_precommitted.true)))

pub returns-clause-answers : goal.returns-clause-answers
unfolding commit_error slot_not_precommitted slot_precommitted
returns-clause-answers c =
    let m = c.args.memory.now in
    let told = pass c.in_ok-ready.ensures.answers in
    let state = ap (λ (slot : Slot). is_precommitted slot.state) (slot-is _ c.in_ok-ready.ensures.shape told.at-is c.in_ok-ready.ensures.below) in
    passed-before _ _ (of_slot active_causes m c.args.slot) _ _ (sym c.in_ok-ready.ensures.answers)
    (passed _ SlotNotPrecommitted _ (ap not (sym state ∙ sym c.is_precommitted.ensures ∙ c.if-not-is_precommitted.false)) (ap Ok (hands-on told) ∙ ended _))
