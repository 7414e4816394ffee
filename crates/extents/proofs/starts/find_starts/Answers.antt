-- The shift is at least 1, and neither more than size nor than what is left; so the starts are those of longer extents.
use native.Mathlib.Omega.{arith}
use Rattle.extents.proofs.Laws.Starts.{starts-end, longer}
use Rattle.extents.proofs.starts.find_starts.Goals as goal

pub narrow-requires : goal.narrow-requires
narrow-requires c =
    let so = c.loop-size.invariant.2 in
    record {
      within = omega (arith, c.words_for-words.ensures);
      short = omega arith;
      none = λ b h. starts-end _ _ _ _ _ c.loop-size.invariant.0 so b (omega (arith, c.words_for-words.ensures));
    }

pub loop-size-preserved : goal.loop-size-preserved
loop-size-preserved c =
    let a = c.args in (
      omega arith,
      omega arith,
      longer a.blocks c.loop-size.size _ a.sam.now a.«com».now _ _ (omega arith) c.loop-size.invariant.2 c.narrow.ensures,
    )
