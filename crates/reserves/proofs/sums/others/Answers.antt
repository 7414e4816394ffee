-- All together are the slot's own and the others'.
use native.Mathlib.Omega.{arith}
use Rattle.model.proofs.Laws.Memory.Reserves.{total-split}
use Rattle.reserves.proofs.sums.others.Goals as goal

pub overflow_sub-result : goal.overflow_sub-result
overflow_sub-result c = omega (arith, total-split c.args.reserves.now c.args.at)

pub returns : goal.returns
returns c = omega (arith, total-split c.args.reserves.now c.args.at)
