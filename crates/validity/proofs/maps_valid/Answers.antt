-- Each way out is a law of `valid`. In a turn the slot is taken as its state says.
use native.Mathlib.Omega.{arith}
use mathlib.Core.Path.{◌≡◌, refl, sym}
use Rattle.std.proofs.lemmas.List.{get_or_default}
use Rattle.bitmap.specs.Sizes.{slot_count}
use Rattle.model_types.specs.Memory.{idle_slot}
use Rattle.validity.specs.Checked.{bare}
use Rattle.validity.proofs.Laws.Slots.{bare-shaped}
use Rattle.validity.proofs.Laws.Passed.{passed_none, idle-taken, active-taken, taken-same, passed-more}
use Rattle.validity.proofs.Laws.Maps.{volume-wrong, slot-wrong, left-decides}
use Rattle.validity.proofs.maps_valid.Goals as goal
use Rattle.validity.proofs.maps_valid.Goals.{then-is_active, else-is_active}

pub returns-then-not-volume_valid : goal.returns-then-not-volume_valid
returns-then-not-volume_valid c = volume-wrong (bare c.args.memory.now) (sym c.if-not-volume_valid.ensures)

pub loop-slot-init : goal.loop-slot-init
loop-slot-init c = rw c.differences.ensures (passed_none (bare c.args.memory.now) (bare-shaped c.shaped.ensures))

pub returns-then-not-fits : goal.returns-then-not-fits
returns-then-not-fits c =
    slot-wrong (bare c.args.memory.now) (bare-shaped c.shaped.ensures) c.loop-slot.slot-index c.loop-slot.left c.if-is_active.left c.loop-slot.invariant
    (taken-same (get_or_default c.args.memory.now.slots c.loop-slot.slot-index _ idle_slot (omega (arith, c.shaped.ensures.slots))) c.if-not-fits.true
    (elim c.if-is_active.branch [
      | then-is_active w ↦ active-taken (sym w.if-is_active.ensures) (record { answer = cc; rest = cc })
      | else-is_active w ↦ idle-taken (sym w.if-is_active.ensures) (record { answer = cc; rest = cc })
    ]))

pub loop-slot-preserved : goal.loop-slot-preserved
loop-slot-preserved c =
    passed-more (bare c.args.memory.now) c.loop-slot.slot-index c.loop-slot.left c.if-is_active.left (bare-shaped c.shaped.ensures) (omega arith) c.loop-slot.invariant
    (taken-same (get_or_default c.args.memory.now.slots c.loop-slot.slot-index _ idle_slot (omega (arith, c.shaped.ensures.slots))) c.if-not-fits.false
    (elim c.if-is_active.branch [
      | then-is_active w ↦ active-taken (sym w.if-is_active.ensures) (record { answer = cc; rest = cc })
      | else-is_active w ↦ idle-taken (sym w.if-is_active.ensures) (record { answer = cc; rest = cc })
    ]))

pub returns : goal.returns
returns c =
    let all : c.loop-slot.slot-index ≡ slot_count = omega (arith, c.loop-slot.invariant.few, c.loop-slot-test.false) in
    left-decides (bare c.args.memory.now) (bare-shaped c.shaped.ensures) c.loop-slot.left _ refl refl (sym c.if-not-volume_valid.ensures) (rw all at c.loop-slot.invariant) cc
