-- The causes of the count, and one behind them.
use mathlib.Core.Path.{sym, ap, ◌∙◌}
use borrow.Author.Tests.{le-leb, lt-leb}
use Rattle.std.specs.Prelude.{Err}
use Rattle.std.proofs.lemmas.Result.{err_from_is_err_and}
use Rattle.model_types.specs.declared.error.Error.TheVariants.{BlockRange}
use Rattle.model.specs.Rules.Causes.{block_out_of_range}
use Rattle.model.specs.Rules.CauseLists.{count_causes}
use Rattle.model.proofs.Laws.Calls.Turns.{held, passed, ended, refused-before, passed-before}
use Rattle.causes.proofs.grants.request_causes.Goals as goal

pub returns-in_err-count_causes : goal.returns-in_err-count_causes
returns-in_err-count_causes c =
    let out = err_from_is_err_and c.from_residual.result c.from_residual.ensures.1 in
    out.1 ∙ ap Err out.2 ∙ refused-before _ _ (count_causes c.args.count c.args.list.now) _ _ (sym c.count_causes.ensures ∙ c.in_err-count_causes.was)

pub returns-then-blocks-near : goal.returns-then-blocks-near
unfolding block_out_of_range
returns-then-blocks-near c =
    passed-before _ _ (count_causes c.args.count c.args.list.now) _ _ (sym c.count_causes.ensures ∙ c.in_ok-count_causes.was)
    (held _ BlockRange _ (le-leb _ _ c.if-blocks-near.true))

pub returns : goal.returns
unfolding block_out_of_range
returns c =
    passed-before _ _ (count_causes c.args.count c.args.list.now) _ _ (sym c.count_causes.ensures ∙ c.in_ok-count_causes.was)
    (passed _ BlockRange _ (lt-leb _ _ c.if-blocks-near.false) (ended _))
