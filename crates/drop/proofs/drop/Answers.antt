-- The slot's causes decide; accepted, the memory is valid, and the rollback is the definition's.
use mathlib.Core.Path.{ap, ◌∙◌}
use Rattle.model.specs.Rules.Rollback.{rolled_back}
use Rattle.model.specs.Rules.Calls.Precommit.{precommit_error}
use Rattle.model.specs.Rules.Calls.Drop.{drop_error, drop_answer, drop_memory}
use Rattle.model.proofs.Laws.Calls.Accepted.{precommit-accepted}
use Rattle.verdicts.proofs.Laws.Ready.{handed-on, pass, refusal, gives, leaves-new, leaves-old}
use Rattle.drop.proofs.drop.Goals as goal

pub returns-in_err-ready : goal.returns-in_err-ready
unfolding precommit_error drop_error drop_answer drop_memory
returns-in_err-ready c =
    let refused = c.in_err-ready.ensures.answers in
    record {
      answers = handed-on c.from_residual.ensures.1 ∙ refusal _ _ _ _ refused;
      leaves = leaves-old _ _ _ _ _ refused;
    }

pub undo-requires : goal.undo-requires
undo-requires c =
    let told = pass c.in_ok-ready.ensures.answers in
    record {
      is_valid = (precommit-accepted c.args.memory.now c.args.slot told.none-found).ready.is_valid;
      shape = c.in_ok-ready.ensures.shape;
      at_lt_slot_count = c.in_ok-ready.ensures.below;
    }

pub returns : goal.returns
unfolding precommit_error drop_error drop_answer drop_memory
returns c =
    let memory = c.args.memory.now in
    let told = pass c.in_ok-ready.ensures.answers in
    record {
      answers = gives _ told.none-found;
      leaves = c.undo.ensures ∙ ap (rolled_back memory) told.at-is ∙ leaves-new _ _ told.none-found;
    }
