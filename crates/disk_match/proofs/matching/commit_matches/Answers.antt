-- The three tests are made in turn: words 0 and 1, the bitmap words that stay, those that change.
use Prim.Native.Nat.{ℕ}
use mathlib.Core.Path.{◌≡◌, sym, ap, ◌∙◌}
use native.Mathlib.Omega.{arith}
use lib.ListN.{length}
use Rattle.model.specs.Rules.Stores.{changes}
use Rattle.disk_log.proofs.Laws.Given.{changed_few}
use Rattle.disk_match.specs.Matching.{head_is, changed_match}
use Rattle.disk_match.proofs.Laws.DiskMatches.{commit-tests}
use Rattle.disk_match.proofs.Laws.InTurn.{stop-first, stop-second, go-last}
use Rattle.disk_match.proofs.matching.commit_matches.Goals as goal
use Rattle.disk_match.proofs.matching.commit_matches.Goals.{then-head_matches, else-head_matches}

pub after-phase-requires-clause-changed_le_bitmap_words : goal.after-phase-requires-clause-changed_le_bitmap_words
after-phase-requires-clause-changed_le_bitmap_words c =
    changed_few c.args.sam.now c.args.new.now (omega arith) (omega (arith, c.changed_for-changed.ensures))

pub returns-then-kept_match : goal.returns-then-kept_match
returns-then-kept_match c =
    let a = c.args in
    let changed_is : c.changed_for-changed.result ≡ length (changes a.sam.now a.new.now) = omega (arith, c.changed_for-changed.ensures) in
    let tests =
    commit-tests a.blocks a.disk.now a.sam.now a.new.now a.done c.after-phase.result (omega arith) (omega arith) (omega arith)
    changed_is c.after-phase.ensures in
    let head = sym (c.head_matches.ensures ∙ ap (head_is a.disk.now a.blocks) c.log_length.ensures) in
    elim c.if-head_matches.branch [
      | then-head_matches w ↦
          c.changed_match.ensures
          ∙ ap (λ (n : ℕ). changed_match a.disk.now a.done n 0 0 a.sam.now a.new.now) c.checkpointed-checkpointed.ensures
          ∙ sym
          (tests
          ∙ go-last _ (head ∙ w.if-head_matches.true) (sym w.kept_match.ensures ∙ sym w.value-is ∙ c.if-kept_match.true))
      | else-head_matches w ↦ cc
    ]

pub returns-else-kept_match : goal.returns-else-kept_match
returns-else-kept_match c =
    let a = c.args in
    let changed_is : c.changed_for-changed.result ≡ length (changes a.sam.now a.new.now) = omega (arith, c.changed_for-changed.ensures) in
    let tests =
    commit-tests a.blocks a.disk.now a.sam.now a.new.now a.done c.after-phase.result (omega arith) (omega arith) (omega arith)
    changed_is c.after-phase.ensures in
    let head = sym (c.head_matches.ensures ∙ ap (head_is a.disk.now a.blocks) c.log_length.ensures) in
    c.if-kept_match.false
    ∙ sym
    (tests
    ∙ elim c.if-head_matches.branch [
      | then-head_matches w ↦
          stop-second _ (head ∙ w.if-head_matches.true) (sym w.kept_match.ensures ∙ sym w.value-is ∙ c.if-kept_match.false)
      | else-head_matches w ↦ stop-first _ _ (head ∙ w.if-head_matches.false)
    ])
