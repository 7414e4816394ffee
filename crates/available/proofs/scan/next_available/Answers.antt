-- The words are those of the available blocks.
use Rattle.std.proofs.Common.{rules}
use Rattle.bitmap.specs.Bits.{IsBitmap}
use Rattle.available.proofs.Laws.Available.{is_available_in, available_in-past}
use Rattle.available.proofs.Laws.Scan.{are_words, next_found}
use Rattle.available.proofs.scan.next_available.Goals as goal

pub returns : goal.returns
returns c =
    let a = c.args in
    let sam : IsBitmap a.sam.now = record { size = c.told-sam; small = c.fits-sam } in
    let «com» : IsBitmap a.«com».now = record { size = c.told-com; small = c.fits-com } in
    next_found a.blocks sam «com» a.start
    (c.next_block.ensures (is_available_in a.blocks a.sam.now a.«com».now)
    (λ k word h p. are_words a.blocks sam «com» k word (search (p, rules)))
    (available_in-past a.blocks a.sam.now a.«com».now))
