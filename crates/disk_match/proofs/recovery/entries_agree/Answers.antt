-- The log has few entries, each for a word of the bitmap; an entry more is compared.
use mathlib.Core.Path.{sym, ◌∙◌}
use native.Mathlib.Omega.{arith}
use borrow.Author.Tests.{eq-eqb, ne_eqb}
use Rattle.disk_log.proofs.Laws.Tests.{and_left, and_none}
use Rattle.disk_log.proofs.Laws.Given.{logged-few}
use Rattle.disk_log.proofs.Laws.Replay.{place-below}
use Rattle.disk_match.proofs.Laws.Recovery.{agree-step, agree-end}
use Rattle.disk_match.proofs.recovery.entries_agree.Goals as goal

pub entries-number-items-requires : goal.entries-number-items-requires
entries-number-items-requires c = record { few = logged-few c.args.disk.now c.requires.logged }

pub bounds-words-number : goal.bounds-words-number
bounds-words-number c =
    let logged = c.requires.logged in
    place-below c.args.disk.now 0 _ c.loop-number.number-index logged.few_blocks logged.log c.entries-number-items.ensures (omega arith)

pub returns-then-words-number : goal.returns-then-words-number
returns-then-words-number c =
    sym
    (c.loop-number.invariant
    ∙ agree-step c.args.words.now _ c.loop-number.number-index (omega arith)
    ∙ and_none _ (ne_eqb _ _ c.if-words-number.true))

pub loop-number-preserved : goal.loop-number-preserved
loop-number-preserved c =
    c.loop-number.invariant
    ∙ agree-step c.args.words.now _ c.loop-number.number-index (omega arith)
    ∙ and_left _ (eq-eqb _ _ c.if-words-number.false)

pub returns : goal.returns
returns c = sym (c.loop-number.invariant ∙ agree-end c.args.words.now _ c.loop-number.number-index c.loop-number-test.false)
