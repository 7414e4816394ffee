-- The slot's causes decide; accepted, the slot is the definition's.
use mathlib.Core.Path.{ap₂, ◌∙◌}
use Rattle.model_types.specs.Memory.{with_slot}
use Rattle.model.specs.Rules.Calls.Start.{started, start_answer, start_memory}
use Rattle.verdicts.proofs.Laws.Ready.{handed-on, pass, refusal, gives, leaves-new, leaves-old}
use Rattle.start.proofs.start.Goals as goal

pub returns-in_err-ready : goal.returns-in_err-ready
unfolding start_answer start_memory
returns-in_err-ready c =
    let refused = c.in_err-ready.ensures.answers in
    record {
      answers = handed-on c.from_residual.ensures.1 ∙ refusal _ _ _ _ refused;
      leaves = leaves-old _ _ _ _ _ refused;
    }

pub returns : goal.returns
unfolding start_answer start_memory started
returns c =
    let memory = c.args.memory.now in
    let told = pass c.in_ok-ready.ensures.answers in
    record {
      answers = gives _ told.none-found;
      leaves = ap₂ (with_slot memory) told.at-is c.new.ensures ∙ leaves-new _ _ told.none-found;
    }
