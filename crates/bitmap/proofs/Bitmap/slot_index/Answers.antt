-- By the test of the range.
use native.Mathlib.Omega.{arith}
use mathlib.Core.Path.{sym, ◌∙◌}
use borrow.Author.Tests.{ltb-true}
use Rattle.bitmap.specs.Sizes.{slot_count, slot_in_range, slot_index}
use Rattle.bitmap.proofs.Bitmap.slot_index.Goals as goal

pub returns-then-slot_in_range : goal.returns-then-slot_in_range
unfolding slot_index slot_in_range
returns-then-slot_in_range c =
    let in-range = sym c.slot_in_range.ensures ∙ c.if-slot_in_range.true in
    record { is = rw in-range; below = ltb-true c.args.slot slot_count in-range }

pub returns-else-slot_in_range : goal.returns-else-slot_in_range
unfolding slot_index
returns-else-slot_in_range c = record { is = rw (sym c.slot_in_range.ensures ∙ c.if-slot_in_range.false); below = omega arith }
