-- A word that the volume fills has the available blocks; with the word that it fills in part, or without one, all words have.
use Prim.Native.Nat.{◌+◌, ◌-◌, ◌*◌, ◌/◌}
use native.Mathlib.Omega.{arith}
use mathlib.Core.Path.{◌≡◌, refl}
use Rattle.std.proofs.Common.{rules}
use Rattle.bitmap.specs.Sizes.{words_for}
use Rattle.bitmap.specs.Bits.{IsBitmap}
use Rattle.available.specs.Available.{available_word}
use Rattle.available.proofs.Laws.Available.{available_whole}
use Rattle.extents.proofs.Laws.Words.{Renewed, renewed-more}
use Rattle.extents.proofs.Laws.Starts.{available-starts}
use Rattle.extents.proofs.starts.put_available.Goals as goal

pub loop-k-preserved : goal.loop-k-preserved
loop-k-preserved c =
    let a = c.args in
    let k = c.loop-k.k in
    renewed-more c.loop-k.invariant _ (omega arith)
    (available_whole a.blocks a.sam.now a.«com».now k (a.blocks - 32 * k) refl (omega arith))

pub returns-then-blocks-ne0 : goal.returns-then-blocks-ne0
returns-then-blocks-ne0 c =
    let a = c.args in
    let p = c.requires in
    let sam : IsBitmap a.sam.now = record { size = c.told-sam; small = c.fits-sam } in
    let «com» : IsBitmap a.«com».now = record { size = c.told-com; small = c.fits-com } in
    let end : c.loop-k.k ≡ a.blocks / 32 = omega arith in
    let rest : a.blocks / 32 + 1 ≡ words_for a.blocks = omega arith in
    let whole : Renewed (a.blocks / 32) (available_word a.blocks a.sam.now a.«com».now) a.starts.now c.loop-k.starts = rw end at c.loop-k.invariant in
    available-starts a.blocks a.sam.now a.«com».now sam «com» p.zeros
    (rw rest at (renewed-more whole c.available_word.result (omega arith) (search rules)))

pub returns-else-blocks-ne0 : goal.returns-else-blocks-ne0
returns-else-blocks-ne0 c =
    let a = c.args in
    let p = c.requires in
    let sam : IsBitmap a.sam.now = record { size = c.told-sam; small = c.fits-sam } in
    let «com» : IsBitmap a.«com».now = record { size = c.told-com; small = c.fits-com } in
    let all : c.loop-k.k ≡ words_for a.blocks = omega arith in
    available-starts a.blocks a.sam.now a.«com».now sam «com» p.zeros (rw all at c.loop-k.invariant)
