-- The slot's causes decide; accepted, the slot is the definition's.
use mathlib.Core.Path.{ap, ap₂, ◌∙◌}
use Rattle.model_types.specs.declared.memory.SlotState.TheVariants.{Precommitted}
use Rattle.model_types.specs.declared.memory.Slot.{Slot}
use Rattle.model_types.specs.Memory.{with_slot, with_state}
use Rattle.model.specs.Rules.Calls.Precommit.{precommitting, precommit_answer, precommit_memory}
use Rattle.verdicts.proofs.Laws.Ready.{handed-on, pass, refusal, gives, leaves-new, leaves-old, slot-is}
use Rattle.precommit.proofs.precommit.Goals as goal

pub returns-in_err-ready : goal.returns-in_err-ready
unfolding precommit_answer precommit_memory
returns-in_err-ready c =
    let refused = c.in_err-ready.ensures.answers in
    record {
      answers = handed-on c.from_residual.ensures.1 ∙ refusal _ _ _ _ refused;
      leaves = leaves-old _ _ _ _ _ refused;
    }

pub returns : goal.returns
unfolding precommit_answer precommit_memory precommitting
returns c =
    let memory = c.args.memory.now in
    let told = pass c.in_ok-ready.ensures.answers in
    let slot = slot-is _ c.in_ok-ready.ensures.shape told.at-is c.in_ok-ready.ensures.below in
    record {
      answers = gives _ told.none-found;
      leaves = ap₂ (with_slot memory) told.at-is (ap (λ (x : Slot). with_state x Precommitted) slot) ∙ leaves-new _ _ told.none-found;
    }
