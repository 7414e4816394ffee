-- The test is the definition's.
use borrow.Author.Rules.{rules}
use Rattle.bitmap.specs.Sizes.{slot_in_range}
use Rattle.bitmap.proofs.Bitmap.slot_in_range.Goals as goal

pub returns : goal.returns
unfolding slot_in_range
returns c = search rules
