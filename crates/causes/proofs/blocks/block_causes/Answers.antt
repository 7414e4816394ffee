-- Three causes, one after the other.
use mathlib.Core.Path.{sym, ap, ap₂, ◌∙◌}
use mathlib.Core.Bool.{not, ◌&&◌}
use borrow.Author.Tests.{le-leb, lt-leb}
use Rattle.model_types.specs.declared.error.Error.TheVariants.{BlockRange, BlockFree, BlockFreeing}
use Rattle.model.specs.Rules.Causes.{block_out_of_range, block_free, block_freeing}
use Rattle.model.proofs.Laws.Calls.Turns.{held, passed, ended}
use Rattle.causes.proofs.blocks.block_causes.Goals as goal

pub returns-then-memory-block : goal.returns-then-memory-block
unfolding block_out_of_range
returns-then-memory-block c = held _ BlockRange _ (le-leb _ _ c.if-memory-block.true)

pub returns-then-not-has : goal.returns-then-not-has
unfolding block_out_of_range block_free
returns-then-not-has c =
    passed _ BlockRange _ (lt-leb _ _ c.if-memory-block.false) (held _ BlockFree _ (ap not (sym c.has.ensures ∙ c.if-not-has.true)))

pub returns-then-not-has-2 : goal.returns-then-not-has-2
unfolding block_out_of_range block_free block_freeing
returns-then-not-has-2 c =
    passed _ BlockRange _ (lt-leb _ _ c.if-memory-block.false)
    (passed _ BlockFree _ (ap not (sym c.has.ensures ∙ c.if-not-has.false))
    (held _ BlockFreeing _ (ap₂ ◌&&◌ (sym c.has.ensures ∙ c.if-not-has.false) (ap not (sym c.has-2.ensures ∙ c.if-not-has-2.true)))))

pub returns : goal.returns
unfolding block_out_of_range block_free block_freeing
returns c =
    passed _ BlockRange _ (lt-leb _ _ c.if-memory-block.false)
    (passed _ BlockFree _ (ap not (sym c.has.ensures ∙ c.if-not-has.false))
    (passed _ BlockFreeing _ (ap₂ ◌&&◌ (sym c.has.ensures ∙ c.if-not-has.false) (ap not (sym c.has-2.ensures ∙ c.if-not-has-2.false))) (ended _)))
