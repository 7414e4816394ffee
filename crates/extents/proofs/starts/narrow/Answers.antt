-- Word k is narrowed from what it and the next word were; in the end all words but those with no bits are narrowed.
use Prim.Native.Nat.{◌+◌}
use native.Mathlib.Nat.{le_refl}
use native.Mathlib.Omega.{arith}
use mathlib.Core.Path.{◌≡◌}
use Rattle.extents.proofs.Laws.Words.{renewed-from, renewed-more}
use Rattle.extents.proofs.Laws.Starts.{all-narrowed}
use Rattle.extents.proofs.starts.narrow.Goals as goal

pub loop-k-preserved : goal.loop-k-preserved
loop-k-preserved c =
    let k = c.loop-k.k in
    let word = renewed-from c.loop-k.invariant k (le_refl k) in
    let next = renewed-from c.loop-k.invariant (k + 1) (omega arith) in
    renewed-more c.loop-k.invariant _ (omega arith) (cc)

pub returns : goal.returns
returns c =
    let a = c.args in
    let p = c.requires in
    let all : c.loop-k.k ≡ a.words = omega arith in
    all-narrowed a.starts.now c.fits-starts a.shift p.short a.words _ p.none (rw all at c.loop-k.invariant)
