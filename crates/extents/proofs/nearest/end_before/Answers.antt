-- A word with no start up to `end` is passed; in the first that has one, the highest is found; at block 0 there is none.
use Prim.Native.Nat.{suc, ◌-◌}
use native.Mathlib.Omega.{arith}
use mathlib.Core.Path.{◌≡◌, sym, ap, ◌∙◌}
use Rattle.extents.specs.Nearest.{end_before}
use Rattle.extents.proofs.Laws.Nearest.{end_none, end-found}
use Rattle.extents.proofs.nearest.end_before.Goals as goal

pub overflow_sub-result : goal.overflow_sub-result
overflow_sub-result c = omega (arith, (end-found c.args.starts.now (c.loop-end.end - 1) c.if-bits-ne0.true).0)

pub returns-then-bits-ne0 : goal.returns-then-bits-ne0
returns-then-bits-ne0 c =
    let whole : suc (c.loop-end.end - 1) ≡ c.loop-end.end = omega arith in
    let found = end-found c.args.starts.now (c.loop-end.end - 1) c.if-bits-ne0.true in
    sym (c.loop-end.invariant.1 ∙ rw whole at found.1)

pub loop-end-preserved : goal.loop-end-preserved
loop-end-preserved c =
    let whole : suc (c.loop-end.end - 1) ≡ c.loop-end.end = omega arith in (
      omega (arith, c.loop-end.invariant.0),
      c.loop-end.invariant.1 ∙ rw whole at (end_none c.args.starts.now (c.loop-end.end - 1) c.if-bits-ne0.false),
    )

pub returns : goal.returns
unfolding end_before
returns c =
    let first : c.loop-end.end ≡ 0 = omega arith in
    sym (c.loop-end.invariant.1 ∙ ap (end_before c.args.starts.now) first)
