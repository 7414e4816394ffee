-- One cause, and 24 behind it.
use borrow.Author.Tests.{lt-ltb, le-ltb}
use Rattle.model_types.specs.declared.error.Error.TheVariants.{TooFewAvailable}
use Rattle.model.specs.Rules.Causes.{too_few_available}
use Rattle.model.proofs.Laws.Calls.Turns.{held, passed}
use Rattle.causes.proofs.grants.enough_causes.Goals as goal

pub returns-then-available-count : goal.returns-then-available-count
unfolding too_few_available
returns-then-available-count c = held _ TooFewAvailable _ (lt-ltb _ _ c.if-available-count.true)

pub returns : goal.returns
unfolding too_few_available
returns c = passed _ TooFewAvailable _ (le-ltb _ _ c.if-available-count.false) c.spare_causes.ensures
