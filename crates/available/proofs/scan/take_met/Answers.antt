-- The next block met is one of the volume's; once it is put and listed, one more is taken.
use native.Mathlib.Omega.{arith}
use Rattle.std.proofs.Common.{rules}
use Rattle.available.proofs.Laws.Take.{taken_none, found_below, taken_more}
use Rattle.available.proofs.scan.take_met.Goals as goal

pub loop-n-init : goal.loop-n-init
loop-n-init c = let none = taken_none c.requires in search rules

pub put-requires : goal.put-requires
put-requires c = omega (arith, found_below c.requires c.loop-n.invariant c.loop-n-test.true c.next_met-found.ensures)

pub put-requires-in-loop-n : goal.put-requires-in-loop-n
put-requires-in-loop-n c = omega (arith, found_below c.requires c.loop-n.invariant c.loop-n-test.true c.next_met-found.ensures)

pub overflow_add-next : goal.overflow_add-next
overflow_add-next c = omega (arith, found_below c.requires c.loop-n.invariant c.loop-n-test.true c.next_met-found.ensures)

pub loop-n-preserved : goal.loop-n-preserved
loop-n-preserved c =
    let more = taken_more c.requires c.loop-n.invariant c.loop-n-test.true c.next_met-found.ensures in
    rw (c.put.ensures, c.put-in-loop-n.ensures) (search rules)
