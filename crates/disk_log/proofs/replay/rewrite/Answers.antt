-- The log has few entries, each for a word of the bitmap; an entry more is written.
use Prim.Native.Nat.{◌≤◌}
use mathlib.Core.Path.{sym, ap, ◌∙◌}
use mathlib.Core.List.{List}
use native.Mathlib.Omega.{arith}
use lib.ListN.{length}
use Rattle.model.specs.Rules.Stores.{Store, writes}
use Rattle.disk_log.proofs.Laws.Replay.{entries-few, place-below, entries-from, rewrite-more, rewrite-end, entries-length}
use Rattle.disk_log.proofs.replay.rewrite.Goals as goal

pub entries-log-requires : goal.entries-log-requires
entries-log-requires c = record { few = entries-few c.args.disk.now c.requires.disk_bound c.requires.disk_value }

pub slice_bounds-number-items-count : goal.slice_bounds-number-items-count
slice_bounds-number-items-count c =
    omega (arith, entries-length c.args.disk.now _ (omega arith) c.requires.disk_bound c.requires.disk_value c.entries-log.ensures)

pub slice_bounds-number-items-start : goal.slice_bounds-number-items-start
slice_bounds-number-items-start c =
    let there : c.args.from ≤ length c.entries-log.result.now =
    omega (arith, entries-length c.args.disk.now _ (omega arith) c.requires.disk_bound c.requires.disk_value c.entries-log.ensures) in
    there

pub loop-number-init : goal.loop-number-init
loop-number-init c =
    ap (λ (es : List Store). writes es c.args.words.now) (entries-from c.entries-log.result.now c.args.from c.entries-log.ensures)

pub bounds-words-number : goal.bounds-words-number
bounds-words-number c =
    place-below c.args.disk.now c.args.from _ c.loop-number.number-index c.requires.disk_bound c.requires.disk_value
    (entries-from c.entries-log.result.now c.args.from c.entries-log.ensures)
    (omega arith)

pub loop-number-preserved : goal.loop-number-preserved
loop-number-preserved c = rewrite-more _ c.loop-number.words c.loop-number.number-index (omega arith) ∙ c.loop-number.invariant

pub returns : goal.returns
returns c = sym (rewrite-end _ c.loop-number.words c.loop-number.number-index c.loop-number-test.false) ∙ c.loop-number.invariant
