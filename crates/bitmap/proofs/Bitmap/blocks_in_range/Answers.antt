-- The two tests are those of the definition, in its order.
use borrow.Author.Tests.{lt-leb, le-leb}
use Rattle.bitmap.specs.Sizes.{blocks_in_range}
use Rattle.bitmap.proofs.Bitmap.blocks_in_range.Goals as goal

pub returns-then-blocks-lt1 : goal.returns-then-blocks-lt1
unfolding blocks_in_range
returns-then-blocks-lt1 c = rw (lt-leb 1 c.args.blocks c.if-blocks-lt1.true)

pub returns : goal.returns
unfolding blocks_in_range
returns c = rw (le-leb 1 c.args.blocks c.if-blocks-lt1.false)
