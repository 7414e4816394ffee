-- Each entry may follow those before it, or the log is not valid.
use mathlib.Core.Path.{sym, ◌∙◌}
use native.Mathlib.Omega.{arith}
use Rattle.model.specs.Rules.Disk.{length_in}
use Rattle.disk_log.proofs.Laws.Log.{log-too-long, log-entries, entries-stop, entries-go, entries-end}
use Rattle.disk_log.proofs.log.log_valid.Goals as goal

pub returns-then-words_for-disk : goal.returns-then-words_for-disk
unfolding length_in
returns-then-words_for-disk c = sym (log-too-long c.args.disk.now (omega (arith, c.words_for.ensures)))

pub loop-number-init : goal.loop-number-init
unfolding length_in
loop-number-init c = rw c.entries-number-items.ensures (log-entries c.args.disk.now (omega (arith, c.words_for.ensures)))

pub returns-then-not-entry_valid : goal.returns-then-not-entry_valid
returns-then-not-entry_valid c =
    sym
    (c.loop-number.invariant
    ∙ entries-stop _ c.loop-number.low _ c.loop-number.number-index (omega arith) c.entry_valid.ensures c.if-not-entry_valid.true)

pub loop-number-preserved : goal.loop-number-preserved
loop-number-preserved c =
    c.loop-number.invariant
    ∙ entries-go _ c.loop-number.low _ c.loop-number.number-index (omega arith) c.entry_valid.ensures c.if-not-entry_valid.false

pub returns : goal.returns
returns c = sym (c.loop-number.invariant ∙ entries-end _ c.loop-number.low _ c.loop-number.number-index c.loop-number-test.false)
