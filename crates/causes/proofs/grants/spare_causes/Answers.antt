-- One cause.
use mathlib.Core.Path.{sym, ◌∙◌}
use Rattle.model_types.specs.declared.error.Error.TheVariants.{ReservedForOthers}
use Rattle.model.specs.Rules.Causes.{reserved_for_others}
use Rattle.model.proofs.Laws.Calls.Turns.{held, passed, ended}
use Rattle.causes.proofs.grants.spare_causes.Goals as goal

pub returns-then-leaves_fewer : goal.returns-then-leaves_fewer
unfolding reserved_for_others
returns-then-leaves_fewer c = held _ ReservedForOthers _ (sym c.leaves_fewer.ensures ∙ c.if-leaves_fewer.true)

pub returns : goal.returns
unfolding reserved_for_others
returns c = passed _ ReservedForOthers _ (sym c.leaves_fewer.ensures ∙ c.if-leaves_fewer.false) (ended _)
