-- The ones of the words that the volume fills are the available blocks before the rest.
use Prim.Native.Nat.{◌-◌, ◌^◌, ◌/◌}
use native.Mathlib.Omega.{arith}
use lib.Bits.{bit_or}
use Rattle.std.proofs.Common.{rules}
use Rattle.bitmap.specs.Blocks.{is_available, available_blocks}
use Rattle.bitmap.proofs.Laws.Blocks.{from-length}
use Rattle.counting.proofs.Laws.Available.{ones_available}
use Rattle.counting.proofs.count_available.Goals as goal

pub overflow_add-result : goal.overflow_add-result
overflow_add-result c =
    let whole = c.count-count.ensures (λ s c. 2 ^ 32 - 1 - bit_or s c) (λ x y w p. search (p, rules)) in
    let all = ones_available c.args.blocks c.args.sam.now c.args.«com».now (c.args.blocks / 32) (record { size = c.told-sam; small = c.fits-sam }) (record { size = c.told-com; small = c.fits-com }) (omega arith) (omega arith) in
    omega (arith, whole, all, c.count_rest.ensures, from-length (is_available c.args.sam.now c.args.«com».now) c.args.blocks 0)

pub returns : goal.returns
unfolding available_blocks
returns c =
    let whole = c.count-count.ensures (λ s c. 2 ^ 32 - 1 - bit_or s c) (λ x y w p. search (p, rules)) in
    let all = ones_available c.args.blocks c.args.sam.now c.args.«com».now (c.args.blocks / 32) (record { size = c.told-sam; small = c.fits-sam }) (record { size = c.told-com; small = c.fits-com }) (omega arith) (omega arith) in
    omega (arith, whole, all, c.count_rest.ensures)
