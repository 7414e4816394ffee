-- By the smaller of the two numbers.
use mathlib.Core.Path.{ap, ◌∙◌}
use borrow.Author.Tests.{eq-eqb, ne_eqb}
use Rattle.model_types.specs.Pending.{stores_for}
use Rattle.model.specs.Rules.Calls.CommitCost.{cost_for}
use Rattle.commit_cost.proofs.stores_at_most.Goals as goal

pub returns-then-touched-eq0 : goal.returns-then-touched-eq0
unfolding cost_for
returns-then-touched-eq0 c = rw (eq-eqb c.args.touched 0 c.if-touched-eq0.true)

pub returns : goal.returns
unfolding cost_for
returns c = rw (ne_eqb c.args.touched 0 c.if-touched-eq0.false) (c.stores_for.ensures ∙ ap stores_for c.min.ensures)
