-- The words are those of the starts.
use Rattle.std.proofs.Common.{rules}
use Rattle.bitmap.specs.Bits.{bit}
use Rattle.extents.specs.Nearest.{next_start}
use Rattle.extents.proofs.Laws.Nearest.{start-word}
use Rattle.extents.proofs.nearest.next_start.Goals as goal

pub returns : goal.returns
unfolding next_start
returns c = c.next_block.ensures (bit c.args.starts.now) (λ k word h p. start-word c.args.starts.now c.fits-starts k word (search (p, rules))) c.requires.none
