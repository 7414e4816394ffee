-- A word more is taken; at the end all are.
use Prim.Native.Nat.{◌^◌, ◌<◌}
use lib.ListN.{get_or}
use lib.Bits.{xor_lt}
use Rattle.std.proofs.Common.{rules}
use Rattle.bitmap.specs.Sizes.{word_bits}
use Rattle.touches.proofs.Laws.Taking.{taking_more, taking_all}
use Rattle.touches.proofs.touch.take_touched.Goals as goal

pub loop-k-preserved : goal.loop-k-preserved
loop-k-preserved c =
    let tam : get_or c.args.tam.now c.loop-k.k 0 < 2 ^ word_bits = search rules in
    let sam : get_or c.args.sam.now c.loop-k.k 0 < 2 ^ word_bits = search rules in
    let more =
    taking_more _ c.args.sam.now c.args.tam.now _ _ _ c.told-left c.told-sam c.told-tam c.loop-k.invariant c.loop-k-test.true
    (search rules)
    (xor_lt word_bits _ _ tam sam)
    in
    search rules

pub returns : goal.returns
returns c = taking_all _ c.args.sam.now c.args.tam.now _ _ _ c.told-left c.told-sam c.told-tam c.loop-k.invariant c.loop-k-test.false
