-- Each return is the first cause that holds, or the disk written.
use mathlib.Core.Path.{sym, ◌∙◌}
use Rattle.volume.proofs.Laws.Format.{refused, accepted, filled, wrong-length, out_of_range, none-holds}
use Rattle.model_types.specs.declared.error.Error.TheVariants.{DiskLength, BlocksRange}
use Rattle.volume.proofs.format.format.Goals as goal

pub returns-then-disk-ne-DISK_WORDS : goal.returns-then-disk-ne-DISK_WORDS
returns-then-disk-ne-DISK_WORDS c =
    let told = refused c.args.disk.now c.args.blocks DiskLength (wrong-length c.args.disk.now c.args.blocks c.if-disk-ne-DISK_WORDS.true) in
    record { answers = told.0; writes = told.1 }

pub returns-then-not-blocks_in_range : goal.returns-then-not-blocks_in_range
returns-then-not-blocks_in_range c =
    let told = refused c.args.disk.now c.args.blocks BlocksRange
    (out_of_range c.args.disk.now c.args.blocks c.if-disk-ne-DISK_WORDS.false (sym c.blocks_in_range.ensures ∙ c.if-not-blocks_in_range.true)) in
    record { answers = told.0; writes = told.1 }

pub returns : goal.returns
returns c =
    let told = accepted c.args.disk.now c.args.blocks
    (none-holds c.args.disk.now c.args.blocks c.if-disk-ne-DISK_WORDS.false (sym c.blocks_in_range.ensures ∙ c.if-not-blocks_in_range.false)) in
    record { answers = told.0; writes = filled c.args.blocks c.fill.new.self _ c.if-disk-ne-DISK_WORDS.false c.fill.ensures.len c.fill.ensures.clones_before_last c.fill.ensures.last ∙ told.1 }
