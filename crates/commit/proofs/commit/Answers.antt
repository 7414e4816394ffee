-- The slot's causes decide; accepted, the commit ends or its stores are pending.
use mathlib.Core.Path.{ap, ◌∙◌}
use Rattle.std.specs.Prelude.{Ok}
use Rattle.std.proofs.lemmas.List.{set-get_or}
use Rattle.model.specs.Rules.Calls.Commit.{commit_answer, commit_memory}
use Rattle.model.proofs.Laws.Calls.Accepted.{commit-accepted}
use Rattle.verdicts.proofs.Laws.Ready.{handed-on, pass, slot-is, refusal, gives, leaves-new, leaves-old}
use Rattle.commit.proofs.Laws.Commit.{stores-are, none_left, some_left}
use Rattle.commit.proofs.commit.Goals as goal

pub returns-in_err-ready : goal.returns-in_err-ready
unfolding commit_answer commit_memory
returns-in_err-ready c =
    let refused = c.in_err-ready.ensures.answers in
    record {
      answers = handed-on c.from_residual.ensures.1 ∙ refusal _ _ _ _ refused;
      leaves = leaves-old _ _ _ _ _ refused;
    }

pub returns-then-due-eq0 : goal.returns-then-due-eq0
unfolding commit_answer commit_memory
returns-then-due-eq0 c =
    let told = pass c.in_ok-ready.ensures.answers in
    let shape = c.in_ok-ready.ensures.shape in
    let accepted = commit-accepted c.args.memory.now c.args.slot told.none-found in
    let stores = stores-are c.args.memory.now c.args.slot shape accepted (slot-is _ shape told.at-is c.in_ok-ready.ensures.below) c.stores_due-due.ensures in
    record {
      answers = ap Ok stores ∙ gives _ told.none-found;
      leaves =
          none_left c.args.memory.now c.args.slot shape accepted stores told.at-is c.if-due-eq0.true (set-get_or _ _ _) c.idle.ensures
          ∙ leaves-new _ _ told.none-found;
    }

pub returns-else-due-eq0 : goal.returns-else-due-eq0
unfolding commit_answer commit_memory
returns-else-due-eq0 c =
    let told = pass c.in_ok-ready.ensures.answers in
    let shape = c.in_ok-ready.ensures.shape in
    let accepted = commit-accepted c.args.memory.now c.args.slot told.none-found in
    let stores = stores-are c.args.memory.now c.args.slot shape accepted (slot-is _ shape told.at-is c.in_ok-ready.ensures.below) c.stores_due-due.ensures in
    record {
      answers = ap Ok stores ∙ gives _ told.none-found;
      leaves =
          some_left c.args.memory.now c.args.slot shape accepted stores told.at-is c.if-due-eq0.false (set-get_or _ _ _)
          ∙ leaves-new _ _ told.none-found;
    }
