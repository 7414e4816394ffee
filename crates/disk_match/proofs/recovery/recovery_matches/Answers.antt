-- The three tests are made in turn, the last on the bitmap with the words still due written.
use Prim.Native.Nat.{ℕ, ◌-◌}
use mathlib.Core.Path.{sym, ap, ◌∙◌}
use mathlib.Core.List.{List}
use native.Mathlib.Omega.{arith}
use lib.ListN.{drop}
use Rattle.bitmap.specs.Bits.{no_bits_from}
use Rattle.model.specs.Rules.Stores.{writes}
use Rattle.model.specs.Rules.Valid.{same_words}
use Rattle.model.specs.Rules.Disk.{log_entries}
use Rattle.disk_match.proofs.Laws.Recovery.{log-agrees, recovery-tests}
use Rattle.disk_match.proofs.Laws.InTurn.{stop-first, stop-second, go-last}
use Rattle.disk_match.proofs.recovery.recovery_matches.Goals as goal

pub returns-then-not-log_agrees : goal.returns-then-not-log_agrees
returns-then-not-log_agrees c =
    let a = c.args in
    sym
    (recovery-tests a.blocks a.sam.now a.disk.now a.done a.due (omega arith)
    ∙ stop-first _ _ (sym c.log_agrees.ensures ∙ c.if-not-log_agrees.true))

pub returns-then-not-no_bits_from : goal.returns-then-not-no_bits_from
returns-then-not-no_bits_from c =
    let a = c.args in
    sym
    (recovery-tests a.blocks a.sam.now a.disk.now a.done a.due (omega arith)
    ∙ stop-second _ (sym c.log_agrees.ensures ∙ c.if-not-log_agrees.false)
    (ap (no_bits_from a.blocks) (sym c.bitmap-words.ensures) ∙ sym c.no_bits_from.ensures ∙ c.if-not-no_bits_from.true))

pub rewrite-requires-clause-disk_bound : goal.rewrite-requires-clause-disk_bound
rewrite-requires-clause-disk_bound c =
    let a = c.args in
    let agrees = log-agrees a.disk.now a.sam.now a.blocks (a.due - 1) (sym c.log_agrees.ensures ∙ c.if-not-log_agrees.false) in
    omega (arith, agrees.blocks_is)

pub rewrite-requires-clause-disk_value : goal.rewrite-requires-clause-disk_value
rewrite-requires-clause-disk_value c =
    let a = c.args in
    let agrees = log-agrees a.disk.now a.sam.now a.blocks (a.due - 1) (sym c.log_agrees.ensures ∙ c.if-not-log_agrees.false) in
    agrees.log

pub rewrite-requires-clause-from_bound : goal.rewrite-requires-clause-from_bound
rewrite-requires-clause-from_bound c =
    let a = c.args in
    let agrees = log-agrees a.disk.now a.sam.now a.blocks (a.due - 1) (sym c.log_agrees.ensures ∙ c.if-not-log_agrees.false) in
    omega (arith, agrees.length_is)

pub returns : goal.returns
returns c =
    let a = c.args in
    c.same.ensures
    ∙ ap (λ (w : List ℕ). same_words w a.sam.now)
    (c.rewrite.ensures ∙ ap (writes (drop a.done (log_entries a.disk.now))) c.bitmap-words.ensures)
    ∙ sym
    (recovery-tests a.blocks a.sam.now a.disk.now a.done a.due (omega arith)
    ∙ go-last _ (sym c.log_agrees.ensures ∙ c.if-not-log_agrees.false)
    (ap (no_bits_from a.blocks) (sym c.bitmap-words.ensures) ∙ sym c.no_bits_from.ensures ∙ c.if-not-no_bits_from.false))
