-- A word that changes is the one looked for, or one of those to pass; a word that stays is passed; there is one before the end.
use Prim.Native.Nat.{ℕ}
use mathlib.Core.Path.{◌≡◌, ap, ◌∙◌}
use mathlib.Core.List.{List}
use native.Mathlib.Omega.{arith}
use lib.ListN.{length, take, drop}
use Rattle.std.proofs.Math.Logic.{⊎_elim}
use Rattle.model.specs.Rules.Stores.{Store, changes_from}
use Rattle.disk_log.proofs.Laws.ChangedWord.{word-stays, word-changes, no-old, no-new}
use Rattle.next_store.proofs.Laws.NextStore.{behind-first}
use Rattle.next_store.proofs.next.changed_word.Goals as goal

pub returns-then-left-eq0 : goal.returns-then-left-eq0
returns-then-left-eq0 c =
    let k = c.loop-k.k-iterator in
    let step = c.in-Some.ensures.steps in
    rw step.1
    (record {
      within = omega (arith, ap length step.0.0);
      entry =
          c.loop-k.invariant.found
          ∙ ap (λ (n : ℕ). take 1 (drop n (changes_from k.count k.iter.a.rest.now k.iter.b.rest.now))) c.if-left-eq0.true
          ∙ ap (take 1) (word-changes k.count step.0.0 step.0.1 c.if-was-will.true);
    })

pub loop-k-preserved-then-was-will : goal.loop-k-preserved-then-was-will
loop-k-preserved-then-was-will c =
    let step = c.in-Some.ensures.steps in
    let split = word-changes c.loop-k.k-iterator.count step.0.0 step.0.1 c.if-was-will.true in
    record {
      size = omega (arith, ap length step.0.0, step.2);
      there = rw step.2 (omega (arith, c.loop-k.invariant.there, c.if-left-eq0.false, ap length split));
      found = rw step.2 (c.loop-k.invariant.found ∙ ap (take 1) (behind-first c.loop-k.left split c.if-left-eq0.false));
    }

pub loop-k-preserved : goal.loop-k-preserved
loop-k-preserved c =
    let step = c.in-Some.ensures.steps in
    let passed = word-stays c.loop-k.k-iterator.count step.0.0 step.0.1 c.if-was-will.false in
    record {
      size = omega (arith, ap length step.0.0, step.2);
      there = rw step.2 (omega (arith, c.loop-k.invariant.there, ap length passed));
      found = rw step.2 (c.loop-k.invariant.found ∙ ap (λ (es : List Store). take 1 (drop c.loop-k.left es)) passed);
    }

pub returns : goal.returns
returns c =
    let k = c.loop-k.k-iterator in
    let none : length (changes_from k.count k.iter.a.rest.now k.iter.b.rest.now) ≡ 0 =
    ⊎_elim (λ o. no-old k.count _ _ o.1.0) (λ n. no-new k.count _ _ n.1.0) c.in-None.ensures.steps.0 in
    absurd (omega (arith, c.loop-k.invariant.there))
