-- The causes of an open slot and of the block decide; accepted, the bitmaps are the definition's.
use mathlib.Core.Path.{sym, ◌∙◌}
use Rattle.model.specs.Rules.CauseLists.{open_causes, of_slot}
use Rattle.model.specs.Rules.Calls.Precommit.{precommit_error}
use Rattle.model.specs.Rules.Calls.Deallocate.{deallocate_error, deallocate_answer, deallocate_memory}
use Rattle.model.proofs.Laws.Calls.Accepted.{precommit-accepted, deallocate-accepted}
use Rattle.model.proofs.Laws.Calls.Answered.{told-done}
use Rattle.model.proofs.Laws.Calls.Turns.{refused-before}
use Rattle.model.proofs.Laws.Memory.Valid.{valid-parts}
use Rattle.verdicts.proofs.Laws.Ready.{handed-on, pass, slot-is, gives, leaves-new, leaves-old}
use Rattle.deallocate.proofs.Laws.Deallocate.{block-decides, fits, freed}
use Rattle.deallocate.proofs.deallocate.Goals as goal

pub returns-in_err-ready : goal.returns-in_err-ready
unfolding precommit_error deallocate_error deallocate_answer deallocate_memory
returns-in_err-ready c =
    let refused = refused-before tt _ (of_slot open_causes c.args.memory.now c.args.slot) _ _ (sym c.in_err-ready.ensures.answers) in
    record {
      answers = handed-on c.from_residual.ensures.1 ∙ refused;
      leaves = leaves-old _ _ _ _ _ refused;
    }

pub block_causes-requires : goal.block_causes-requires
block_causes-requires c =
    let told = pass c.in_ok-ready.ensures.answers in
    (valid-parts _ (precommit-accepted _ _ told.none-found).ready.is_valid).few_blocks

pub returns-in_err-block_causes : goal.returns-in_err-block_causes
unfolding deallocate_answer deallocate_memory
returns-in_err-block_causes c =
    let refused = block-decides _ _ c.args.block (pass c.in_ok-ready.ensures.answers) c.in_err-block_causes.ensures in
    record {
      answers = handed-on c.from_residual-in_err-block_causes.ensures.1 ∙ refused;
      leaves = leaves-old _ _ _ _ _ refused;
    }

pub clear-requires : goal.clear-requires
clear-requires c =
    let accepted = block-decides _ _ c.args.block (pass c.in_ok-ready.ensures.answers) c.in_ok-block_causes.ensures in
    fits _ _ _ (deallocate-accepted _ _ c.args.block (told-done _ (sym accepted)))

pub clear-requires-2 : goal.clear-requires-2
clear-requires-2 c =
    let accepted = block-decides _ _ c.args.block (pass c.in_ok-ready.ensures.answers) c.in_ok-block_causes.ensures in
    fits _ _ _ (deallocate-accepted _ _ c.args.block (told-done _ (sym accepted)))

pub returns : goal.returns
unfolding deallocate_answer deallocate_memory
returns c =
    let told = pass c.in_ok-ready.ensures.answers in
    let shape = c.in_ok-ready.ensures.shape in
    let none-held = told-done _ (sym (block-decides _ _ c.args.block told c.in_ok-block_causes.ensures)) in
    let slot = slot-is _ shape told.at-is c.in_ok-ready.ensures.below in
    record {
      answers = gives _ none-held;
      leaves =
          freed _ _ _ (deallocate-accepted _ _ _ none-held) shape told.at-is slot c.clear.ensures c.clear-2.ensures
          ∙ leaves-new _ _ none-held;
    }
