-- The causes of an open slot and of the count decide; accepted, the answer goes by the blocks touched.
use native.Mathlib.Omega.{arith}
use mathlib.Core.Path.{sym, ap, ◌∙◌}
use mathlib.Core.Option.{Option}
use Rattle.std.specs.Prelude.{Ok}
use Rattle.model_types.specs.declared.error.Error.{Error}
use Rattle.model_types.specs.Answers.{answer}
use Rattle.model.specs.Rules.CauseLists.{open_causes, of_slot}
use Rattle.model.specs.Rules.Calls.Precommit.{precommit_error}
use Rattle.model.specs.Rules.Calls.CommitCost.{commit_cost_error, commit_cost_answer}
use Rattle.model.proofs.Laws.Memory.Valid.{valid-parts}
use Rattle.model.proofs.Laws.Calls.Accepted.{precommit-accepted, commit-cost-accepted}
use Rattle.model.proofs.Laws.Calls.Answered.{told-done}
use Rattle.model.proofs.Laws.Calls.Turns.{refused-before}
use Rattle.verdicts.proofs.Laws.Ready.{handed-on, pass, refusal, gives, slot-is}
use Rattle.causes.proofs.Laws.Available.{can-count}
use Rattle.commit_cost.proofs.Laws.CommitCost.{error-is, cost-is, few-touched}
use Rattle.commit_cost.proofs.commit_cost.Goals as goal

pub returns-in_err-ready : goal.returns-in_err-ready
unfolding precommit_error commit_cost_error commit_cost_answer
returns-in_err-ready c =
    handed-on c.from_residual.ensures.1 ∙ refused-before _ _ (of_slot open_causes c.args.memory.now c.args.slot) _ _ (sym c.in_err-ready.ensures.answers)

pub available_now-available-requires : goal.available_now-available-requires
available_now-available-requires c =
    let told = pass c.in_ok-ready.ensures.answers in
    can-count c.args.memory.now told.counted-is (precommit-accepted _ _ told.none-found).ready.is_valid

pub returns-in_err-cost_causes : goal.returns-in_err-cost_causes
unfolding commit_cost_answer
returns-in_err-cost_causes c =
    let told = pass c.in_ok-ready.ensures.answers in
    let error = error-is _ _ c.args.count told c.available_now-available.ensures c.others-kept.ensures in
    handed-on c.from_residual-in_err-cost_causes.ensures.1 ∙ refusal _ _ _ _ (c.in_err-cost_causes.ensures ∙ ap (λ (x : Option Error). answer x tt) error)

pub words_for-requires : goal.words_for-requires
words_for-requires c =
    let told = pass c.in_ok-ready.ensures.answers in
    (valid-parts _ (precommit-accepted _ _ told.none-found).ready.is_valid).few_blocks

pub overflow_add-touched : goal.overflow_add-touched
overflow_add-touched c =
    let told = pass c.in_ok-ready.ensures.answers in
    let error = error-is _ _ c.args.count told c.available_now-available.ensures c.others-kept.ensures in
    let accepted = sym error ∙ told-done _ (sym c.in_ok-cost_causes.ensures) in
    omega (arith, few-touched _ _ c.args.count c.count_differing-touched.ensures (commit-cost-accepted _ _ _ accepted).few)

pub stores_at_most-requires : goal.stores_at_most-requires
stores_at_most-requires c =
    let told = pass c.in_ok-ready.ensures.answers in
    omega (arith, c.words_for.ensures, (valid-parts _ (precommit-accepted _ _ told.none-found).ready.is_valid).few_blocks)

pub returns : goal.returns
unfolding commit_cost_answer
returns c =
    let told = pass c.in_ok-ready.ensures.answers in
    let error = error-is _ _ c.args.count told c.available_now-available.ensures c.others-kept.ensures in
    let parts = valid-parts c.args.memory.now (precommit-accepted _ _ told.none-found).ready.is_valid in
    let cost =
    cost-is c.args.memory.now c.args.slot c.args.count parts _ (slot-is _ c.in_ok-ready.ensures.shape told.at-is c.in_ok-ready.ensures.below)
    c.count_differing-touched.ensures c.words_for.ensures c.stores_at_most.ensures in
    ap Ok cost ∙ gives _ (sym error ∙ told-done _ (sym c.in_ok-cost_causes.ensures))
