-- Two causes, one after the other.
use mathlib.Core.Path.{sym, ap, ◌∙◌}
use mathlib.Core.Bool.{not}
use borrow.Author.Tests.{lt-ltb, le-ltb}
use Rattle.model_types.specs.declared.error.Error.TheVariants.{CountRange, ListShort}
use Rattle.model.specs.Rules.Causes.{count_out_of_range, list_short}
use Rattle.model.proofs.Laws.Calls.Turns.{held, passed, ended}
use Rattle.causes.proofs.grants.count_causes.Goals as goal

pub returns-then-not-count_in_range : goal.returns-then-not-count_in_range
unfolding count_out_of_range
returns-then-not-count_in_range c = held _ CountRange _ (ap not (sym c.count_in_range.ensures ∙ c.if-not-count_in_range.true))

pub returns-then-list-count : goal.returns-then-list-count
unfolding count_out_of_range list_short
returns-then-list-count c =
    passed _ CountRange _ (ap not (sym c.count_in_range.ensures ∙ c.if-not-count_in_range.false))
    (held _ ListShort _ (lt-ltb _ _ c.if-list-count.true))

pub returns : goal.returns
unfolding count_out_of_range list_short
returns c =
    passed _ CountRange _ (ap not (sym c.count_in_range.ensures ∙ c.if-not-count_in_range.false))
    (passed _ ListShort _ (le-ltb _ _ c.if-list-count.false) (ended _))
