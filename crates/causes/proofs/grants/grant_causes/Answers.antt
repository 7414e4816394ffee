-- The causes of the count, and those of what is available behind them.
use mathlib.Core.Path.{sym, ap, ◌∙◌}
use Rattle.std.specs.Prelude.{Err}
use Rattle.std.proofs.lemmas.Result.{err_from_is_err_and}
use Rattle.model.specs.Rules.CauseLists.{count_causes}
use Rattle.model.proofs.Laws.Calls.Turns.{refused-before, passed-before}
use Rattle.causes.proofs.grants.grant_causes.Goals as goal

pub returns-in_err-count_causes : goal.returns-in_err-count_causes
returns-in_err-count_causes c =
    let out = err_from_is_err_and c.from_residual.result c.from_residual.ensures.1 in
    out.1 ∙ ap Err out.2 ∙ refused-before _ _ (count_causes c.args.count c.args.list.now) _ _ (sym c.count_causes.ensures ∙ c.in_err-count_causes.was)

pub returns : goal.returns
returns c =
    passed-before _ _ (count_causes c.args.count c.args.list.now) _ _ (sym c.count_causes.ensures ∙ c.in_ok-count_causes.was)
    c.enough_causes.ensures
