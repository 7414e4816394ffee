-- The library's test of each slot is model's.
use mathlib.Core.Bool.{not}
use Rattle.std.proofs.Common.{rules}
use Rattle.std.specs.Prelude.{All, IsTrue, ◌↔◌}
use Rattle.model_types.specs.declared.memory.Slot.{Slot}
use Rattle.model_types.specs.Memory.{is_active}
use Rattle.validity.proofs.Laws.Slots.{all_slots-is}
use Rattle.validity.proofs.pending.all_idle.Goals as goal

pub returns : goal.returns
returns c =
    let each : IsTrue c.all.result ↔ All (λ (slot : Slot). IsTrue (not (is_active slot.state))) c.args.slots.now = search rules in
    all_slots-is (λ (slot : Slot). not (is_active slot.state)) c.args.slots.now c.all.result each
