-- The starts found are those of the definition, and the nearest is one of them.
use mathlib.Core.Path.{◌≡◌, ap, ◌∙◌}
use borrow.Author.Tests.{lt-ltb, le-ltb}
use Rattle.bitmap.specs.Extents.{nearest, is_start, starts}
use Rattle.bitmap.specs.Blocks.{is_available}
use Rattle.bitmap.proofs.Laws.Bits.{get_or-zeros}
use Rattle.bitmap.proofs.Laws.Blocks.{from-same}
use Rattle.std.specs.Prelude.{Some, None}
use Rattle.extents.specs.Nearest.{if_below}
use Rattle.extents.specs.Starts.{start_words}
use Rattle.extents.proofs.Laws.Starts.{starts-end}
use Rattle.extents.proofs.nearest.nearest_extent.Goals as goal

pub find_starts-requires : goal.find_starts-requires
find_starts-requires c =
    let can = c.requires in
    record { volume = can.volume; some = can.some; few = can.few; zeros = get_or-zeros start_words }

pub nearest_start-start-requires-clause-can_look : goal.nearest_start-start-requires-clause-can_look
nearest_start-start-requires-clause-can_look c =
    let can = c.requires in
    let so = c.find_starts.ensures in
    record { volume = can.volume; none = starts-end _ _ _ _ _ can.some so }

pub returns-then-start-blocks : goal.returns-then-start-blocks
unfolding starts
returns-then-start-blocks c =
    let a = c.args in
    let start = c.nearest_start-start.result in
    let below : Some start ≡ if_below a.blocks start = rw (lt-ltb start a.blocks c.if-start-blocks.true) in
    below
    ∙ ap (if_below a.blocks) (c.nearest_start-start.ensures
    ∙ ap (nearest a.near a.blocks)
    (from-same _ (is_start (is_available a.sam.now a.«com».now) a.blocks a.count) a.blocks 0 (λ b l h. c.find_starts.ensures b)))

pub returns-else-start-blocks : goal.returns-else-start-blocks
unfolding starts
returns-else-start-blocks c =
    let a = c.args in
    let start = c.nearest_start-start.result in
    let none : None ≡ if_below a.blocks start = rw (le-ltb start a.blocks c.if-start-blocks.false) in
    none
    ∙ ap (if_below a.blocks) (c.nearest_start-start.ensures
    ∙ ap (nearest a.near a.blocks)
    (from-same _ (is_start (is_available a.sam.now a.«com».now) a.blocks a.count) a.blocks 0 (λ b l h. c.find_starts.ensures b)))
