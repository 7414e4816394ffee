-- The two tests are those of the definition, in its order.
use borrow.Author.Tests.{lt-leb, le-leb}
use Rattle.bitmap.specs.Sizes.{count_in_range}
use Rattle.bitmap.proofs.Bitmap.count_in_range.Goals as goal

pub returns-then-count-lt1 : goal.returns-then-count-lt1
unfolding count_in_range
returns-then-count-lt1 c = rw (lt-leb 1 c.args.count c.if-count-lt1.true)

pub returns : goal.returns
unfolding count_in_range
returns c = rw (le-leb 1 c.args.count c.if-count-lt1.false)
