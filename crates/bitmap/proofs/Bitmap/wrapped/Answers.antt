-- The place after the last block is block 0, any other is itself.
use borrow.Author.Tests.{eq-eqb, ne_eqb}
use Rattle.bitmap.specs.Round.{wrapped}
use Rattle.bitmap.proofs.Bitmap.wrapped.Goals as goal

pub returns-then-place-blocks : goal.returns-then-place-blocks
unfolding wrapped
returns-then-place-blocks c = rw (eq-eqb c.args.place c.args.blocks c.if-place-blocks.true)

pub returns-else-place-blocks : goal.returns-else-place-blocks
unfolding wrapped
returns-else-place-blocks c = rw (ne_eqb c.args.place c.args.blocks c.if-place-blocks.false)
