-- A word that changes is tested, one that stays is passed. At most 128 change.
use Prim.Native.Nat.{ℕ}
use mathlib.Core.Path.{sym, ap, ◌∙◌}
use native.Mathlib.Omega.{arith}
use lib.ListN.{length}
use Rattle.std.proofs.Math.Logic.{⊎_elim}
use Rattle.disk_log.proofs.Laws.Tests.{and_left, and_none}
use Rattle.disk_log.proofs.Laws.Given.{changed_few}
use Rattle.disk_log.proofs.Laws.ChangedWord.{word-stays, word-changes, no-old, no-new}
use Rattle.disk_match.specs.Matching.{word_matches}
use Rattle.disk_match.proofs.Laws.WordByWord.{changed-pass, changed-test, changed-end}
use Rattle.disk_match.proofs.written.changed_match.Goals as goal

pub word_matches-requires-clause-i_lt_bitmap_words : goal.word_matches-requires-clause-i_lt_bitmap_words
word_matches-requires-clause-i_lt_bitmap_words c =
    omega (arith, changed_few c.args.old.now c.args.new.now (omega arith) c.requires.changed_is)

pub returns-then-not-word_matches : goal.returns-then-not-word_matches
returns-then-not-word_matches c =
    let a = c.args in
    let step = c.in-Some.ensures.steps in
    sym
    (c.loop-k.invariant.match
    ∙ changed-test a.disk.now a.done a.checkpointed _ c.loop-k.i step.0.0 step.0.1 c.if-was-will.true
    (c.word_matches.ensures
    ∙ ap (λ (k : ℕ). word_matches a.disk.now a.done a.checkpointed k c.loop-k.i c.in-Some.was.now c.in-Some.will.now) step.1)
    ∙ and_none _ c.if-not-word_matches.true)

pub loop-k-preserved-then-was-will : goal.loop-k-preserved-then-was-will
loop-k-preserved-then-was-will c =
    let a = c.args in
    let step = c.in-Some.ensures.steps in
    record {
      left = omega (arith, ap length step.0.0, step.2);
      counted = rw step.2 (omega (arith, c.loop-k.invariant.counted, ap length (word-changes c.loop-k.k-iterator.count step.0.0 step.0.1 c.if-was-will.true)));
      match =
          rw step.2
          (c.loop-k.invariant.match
          ∙ changed-test a.disk.now a.done a.checkpointed _ c.loop-k.i step.0.0 step.0.1 c.if-was-will.true
          (c.word_matches.ensures
          ∙ ap (λ (k : ℕ). word_matches a.disk.now a.done a.checkpointed k c.loop-k.i c.in-Some.was.now c.in-Some.will.now) step.1)
          ∙ and_left _ c.if-not-word_matches.false);
    }

pub loop-k-preserved : goal.loop-k-preserved
loop-k-preserved c =
    let a = c.args in
    let step = c.in-Some.ensures.steps in
    record {
      left = omega (arith, ap length step.0.0, step.2);
      counted = rw step.2 (omega (arith, c.loop-k.invariant.counted, ap length (word-stays c.loop-k.k-iterator.count step.0.0 step.0.1 c.if-was-will.false)));
      match =
          rw step.2
          (c.loop-k.invariant.match
          ∙ changed-pass a.disk.now a.done a.checkpointed _ c.loop-k.i step.0.0 step.0.1 c.if-was-will.false);
    }

pub returns-in-None : goal.returns-in-None
returns-in-None c =
    let k = c.loop-k.k-iterator.count in
    sym
    (c.loop-k.invariant.match
    ∙ changed-end c.args.disk.now c.args.done c.args.checkpointed k c.loop-k.i _ _
    (⊎_elim (λ o. no-old k _ _ o.1.0) (λ n. no-new k _ _ n.1.0) c.in-None.ensures.steps.0))

pub returns-then-i-changed : goal.returns-then-i-changed
returns-then-i-changed c =
    sym
    (c.loop-k.invariant.match
    ∙ changed-end c.args.disk.now c.args.done c.args.checkpointed _ c.loop-k.i _ _ (omega (arith, c.loop-k.invariant.counted)))
