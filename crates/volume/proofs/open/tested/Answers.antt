-- Each return is the first cause that holds, by the tests before it.
use mathlib.Core.Path.{sym, ap, ◌∙◌}
use lib.ListN.{length}
use mathlib.Core.Bool.{false≢true}
use Rattle.model.specs.Rules.Disk.{disk_blocks}
use Rattle.model.proofs.Laws.Disk.Parts.{in_range-high}
use Rattle.volume.proofs.Laws.Open.{wrong-length, out_of_range, stray-bits, bad-log, none-holds}
use Rattle.volume.proofs.open.tested.Goals as goal

pub returns-in_default : goal.returns-in_default
returns-in_default c = wrong-length c.args.disk.now (λ e. false≢true (c.in_default.ensures.0 e))

pub returns-then-not-blocks_in_range : goal.returns-then-not-blocks_in_range
returns-then-not-blocks_in_range c =
    let chunk = c.in-Ok.ensures.1 in
    rw chunk.same at (out_of_range c.in-Ok.words.now (ap length chunk.same ∙ chunk.long) (sym c.blocks_in_range.ensures ∙ c.if-not-blocks_in_range.true))

pub bitmap_valid-requires : goal.bitmap_valid-requires
bitmap_valid-requires c =
    record { disk_bound = in_range-high (disk_blocks c.in-Ok.words.now) (sym c.blocks_in_range.ensures ∙ c.if-not-blocks_in_range.false) }

pub returns-then-not-bitmap_valid : goal.returns-then-not-bitmap_valid
returns-then-not-bitmap_valid c =
    let chunk = c.in-Ok.ensures.1 in
    rw chunk.same at
    (stray-bits c.in-Ok.words.now (ap length chunk.same ∙ chunk.long) (sym c.blocks_in_range.ensures ∙ c.if-not-blocks_in_range.false)
    (sym c.bitmap_valid.ensures ∙ c.if-not-bitmap_valid.true))

pub log_valid-requires : goal.log_valid-requires
log_valid-requires c =
    record { disk_bound = in_range-high (disk_blocks c.in-Ok.words.now) (sym c.blocks_in_range.ensures ∙ c.if-not-blocks_in_range.false) }

pub returns-then-not-log_valid : goal.returns-then-not-log_valid
returns-then-not-log_valid c =
    let chunk = c.in-Ok.ensures.1 in
    rw chunk.same at
    (bad-log c.in-Ok.words.now (ap length chunk.same ∙ chunk.long) (sym c.blocks_in_range.ensures ∙ c.if-not-blocks_in_range.false)
    (sym c.bitmap_valid.ensures ∙ c.if-not-bitmap_valid.false) (sym c.log_valid.ensures ∙ c.if-not-log_valid.true))

pub returns : goal.returns
returns c =
    let chunk = c.in-Ok.ensures.1 in (
      rw chunk.same at
          (none-holds c.in-Ok.words.now (ap length chunk.same ∙ chunk.long) (sym c.blocks_in_range.ensures ∙ c.if-not-blocks_in_range.false)
          (sym c.bitmap_valid.ensures ∙ c.if-not-bitmap_valid.false) (sym c.log_valid.ensures ∙ c.if-not-log_valid.false)),
      chunk.same,
    )
