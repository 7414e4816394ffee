-- A slot is refreshed if it is active, and stays if it is idle.
use native.Mathlib.Omega.{arith}
use mathlib.Core.Path.{sym, ◌∙◌}
use lib.ListN.{set, length-set}
use Rattle.model_types.specs.Memory.{idle_slot}
use Rattle.ending.specs.Ended.{refreshed_slot}
use Rattle.ending.proofs.Laws.Slots.{one-more}
use Rattle.ending.proofs.Laws.Refreshed.{idle-stays, active-refreshed}
use Rattle.ending.proofs.refresh.Goals as goal
use Rattle.ending.proofs.refresh.Goals.{then-is_active, else-is_active}

pub loop-slot-preserved : goal.loop-slot-preserved
loop-slot-preserved c =
    let l = c.loop-slot in
    let old = c.args.old.now in
    let new = c.args.new.now in
    let first = set c.args.slots.now c.args.at idle_slot in
    elim c.if-is_active.branch [
      | then-is_active w ↦
          w.slots-is
          ∙ one-more (refreshed_slot old new) first l.slots l.slot-index l.invariant _ _ (omega (arith, length-set c.args.slots.now c.args.at idle_slot))
          (active-refreshed old new _ _ (sym c.is_active.ensures ∙ w.if-is_active.true) w.refresh.ensures)
      | else-is_active w ↦
          w.slots-is
          ∙ one-more (refreshed_slot old new) first l.slots l.slot-index l.invariant _ _ (omega (arith, length-set c.args.slots.now c.args.at idle_slot))
          (idle-stays old new _ (sym c.is_active.ensures ∙ w.if-is_active.false))
    ]
