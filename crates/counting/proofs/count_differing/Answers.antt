-- A bit of a difference is a block at which the two differ.
use lib.Bits.{bit_xor}
use Rattle.std.proofs.Common.{rules}
use Rattle.bitmap.specs.Bits.{IsBitmap}
use Rattle.counting.proofs.Laws.Words.{ones-differing}
use Rattle.counting.proofs.count_differing.Goals as goal

pub returns : goal.returns
returns c =
    let is_left : IsBitmap c.args.left.now = record { size = c.told-left; small = c.fits-left } in
    let is_right : IsBitmap c.args.right.now = record { size = c.told-right; small = c.fits-right } in
    let counted = c.count.ensures bit_xor (λ x y w p. search (p, rules)) in
    let all = ones-differing c.args.left.now c.args.right.now is_left is_right in
    cc
