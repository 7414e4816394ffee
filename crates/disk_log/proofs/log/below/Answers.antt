-- A word below 2 ^ bits has nothing left when `bits` of its bits are shifted out.
use mathlib.Core.Path.{sym, ◌∙◌}
use borrow.Author.Tests.{le-leb}
use Rattle.bitops.proofs.Laws.Compare.{eqb-shift}
use Rattle.disk_log.proofs.Laws.Log.{all-bits}
use Rattle.disk_log.proofs.log.below.Goals as goal

pub returns-then-bits-ge-WORD_BITS : goal.returns-then-bits-ge-WORD_BITS
returns-then-bits-ge-WORD_BITS c =
    le-leb 32 c.args.bits c.if-bits-ge-WORD_BITS.true
    ∙ sym (all-bits c.args.word c.args.bits c.ranges.word.fits c.if-bits-ge-WORD_BITS.true)

pub returns-else-bits-ge-WORD_BITS : goal.returns-else-bits-ge-WORD_BITS
returns-else-bits-ge-WORD_BITS c = eqb-shift c.args.word c.args.bits
