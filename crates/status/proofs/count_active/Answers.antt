-- An active slot counts, an idle one doesn't.
use native.Mathlib.Omega.{arith}
use mathlib.Core.Path.{sym, ◌∙◌}
use Rattle.status.proofs.Laws.Status.{one_more, same_count, all-counted}
use Rattle.status.proofs.count_active.Goals as goal
use Rattle.status.proofs.count_active.Goals.{then-is_active, else-is_active}

pub loop-slot-preserved : goal.loop-slot-preserved
loop-slot-preserved c =
    let l = c.loop-slot in
    let slots = c.args.slots.now in
    let flag = sym c.is_active.ensures in
    elim c.if-is_active.branch [
      | then-is_active w ↦
          record {
            few = omega (arith, l.invariant.few, w.count-is);
            all = rw w.count-is (one_more slots l.slot-index _ l.count (omega arith) l.invariant.all (flag ∙ w.if-is_active.true));
          }
      | else-is_active w ↦
          record {
            few = omega (arith, l.invariant.few, w.count-is);
            all = rw w.count-is (same_count slots l.slot-index _ l.count (omega arith) l.invariant.all (flag ∙ w.if-is_active.false));
          }
    ]

pub returns : goal.returns
returns c = all-counted c.args.slots.now c.loop-slot.slot-index c.loop-slot.count (omega arith) c.loop-slot.invariant.all
