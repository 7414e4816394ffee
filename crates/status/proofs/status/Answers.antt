-- The memory tested, blocks and active slots counted.
use native.Mathlib.Omega.{arith}
use mathlib.Core.Path.{sym, ap, ◌∙◌}
use mathlib.Core.Option.{Option}
use Rattle.std.specs.Prelude.{Ok, Err}
use Rattle.std.proofs.lemmas.Result.{err_from_is_err_and}
use Rattle.model_types.specs.declared.error.Error.{Error}
use Rattle.model_types.specs.Answers.{answer}
use Rattle.model.specs.Rules.Calls.Status.{counts, status_answer}
use Rattle.model.proofs.Laws.Calls.Answered.{told-answer, told-refusal}
use Rattle.status.proofs.Laws.Status.{is_valid, counts-within, counts-are}
use Rattle.status.proofs.status.Goals as goal

pub returns-in_err-check : goal.returns-in_err-check
unfolding answer status_answer
returns-in_err-check c =
    let out = err_from_is_err_and c.from_residual.result c.from_residual.ensures.1 in
    let refused = told-refusal _ _ _ (sym c.in_err-check.ensures.answers) in
    out.1 ∙ ap Err out.2 ∙ sym (ap (λ (x : Option Error). answer x (counts c.args.memory.now)) refused)

pub overflow_sub-result : goal.overflow_sub-result
overflow_sub-result c =
    let accepted = (told-answer _ _ _ (sym c.in_ok-check.ensures.answers)).0 in
    omega (arith, (counts-within c.args.memory.now _ c.count_blocks-tally.ensures (is_valid _ accepted)).volume)

pub overflow_sub-result-2 : goal.overflow_sub-result-2
overflow_sub-result-2 c =
    let accepted = (told-answer _ _ _ (sym c.in_ok-check.ensures.answers)).0 in
    omega (arith, (counts-within c.args.memory.now _ c.count_blocks-tally.ensures (is_valid _ accepted)).volume)

pub overflow_sub-result-3 : goal.overflow_sub-result-3
overflow_sub-result-3 c =
    let accepted = (told-answer _ _ _ (sym c.in_ok-check.ensures.answers)).0 in
    (counts-within c.args.memory.now _ c.count_blocks-tally.ensures (is_valid _ accepted)).freed

pub returns : goal.returns
unfolding answer status_answer
returns c =
    let memory = c.args.memory.now in
    let accepted = (told-answer _ _ _ (sym c.in_ok-check.ensures.answers)).0 in
    ap Ok (counts-are memory _ c.count_blocks-tally.ensures (is_valid _ accepted) c.count_active.ensures)
    ∙ sym (ap (λ (x : Option Error). answer x (counts memory)) accepted)
