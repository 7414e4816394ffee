-- A word with no bit left is passed; in the first that has one, the lowest is found; at the end there is none.
use Prim.Native.Nat.{ℕ, ◌/◌}
use native.Mathlib.Omega.{arith}
use mathlib.Core.Path.{sym, ap, ◌∙◌}
use mathlib.Core.List.{List}
use lib.ListN.{get_or}
use Rattle.available.proofs.Laws.Search.{word_passed, word_found, none_found}
use Rattle.available.proofs.search.next_block.Goals as goal

pub returns-then-bits-ne0 : goal.returns-then-bits-ne0
returns-then-bits-ne0 g c = λ test are past.
    let found = word_found past c.loop-block.block (are (c.loop-block.block / 32) _ (omega arith) c.word.ensures) c.if-bits-ne0.true in
    let first = ap (λ (l : List ℕ). get_or l 0 c.args.blocks) (c.loop-block.invariant test are past) in
    cc

pub loop-block-preserved : goal.loop-block-preserved
loop-block-preserved g c = λ test are past.
    c.loop-block.invariant test are past
    ∙ word_passed past c.loop-block.block (are (c.loop-block.block / 32) _ (omega arith) c.word.ensures) c.if-bits-ne0.false

pub returns : goal.returns
returns g c = λ test are past.
    none_found past c.loop-block.block c.loop-block-test.false
    ∙ sym (ap (λ (l : List ℕ). get_or l 0 c.args.blocks) (c.loop-block.invariant test are past))
