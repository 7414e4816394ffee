-- One cause, and 17 and 24 behind it.
use borrow.Author.Tests.{lt-ltb, le-ltb}
use Rattle.model_types.specs.declared.error.Error.TheVariants.{CountRange}
use Rattle.model.specs.Rules.Causes.{count_too_large}
use Rattle.model.proofs.Laws.Calls.Turns.{held, passed}
use Rattle.causes.proofs.grants.cost_causes.Goals as goal

pub returns-then-count-gt-COUNT : goal.returns-then-count-gt-COUNT
unfolding count_too_large
returns-then-count-gt-COUNT c = held _ CountRange _ (lt-ltb _ _ c.if-count-gt-COUNT.true)

pub returns : goal.returns
unfolding count_too_large
returns c = passed _ CountRange _ (le-ltb _ _ c.if-count-gt-COUNT.false) c.enough_causes.ensures
