-- Past the last slot there is the empty bitmap.
use Prim.Native.Nat.{◌≤◌, ◌<◌}
use native.Mathlib.Omega.{arith}
use mathlib.Core.Logic.{⊎_elim}
use lib.ListN.{get_or-eq_default}
use Rattle.bitmap.proofs.Laws.Bits.{below-or-from}
use Rattle.model_types.specs.Memory.{idle_slot}
use Rattle.model_types.proofs.Laws.Shape.{empty-is}
use Rattle.validity.proofs.shape.shaped.Goals as goal

pub returns : goal.returns
returns c =
    record {
      sam = c.words_shaped.ensures;
      «com» = c.words_shaped-2.ensures;
      slots = c.slots_shaped.ensures;
      tam = λ s.
          ⊎_elim (λ (l : s < 8). c.loop-slot.invariant s (omega arith))
          (λ (past : 8 ≤ s). rw (get_or-eq_default c.args.memory.now.slots idle_slot {n = s} (omega (arith, c.slots_shaped.ensures))) empty-is)
          (below-or-from s 8);
      reserves = c.reserves_shaped.ensures;
    }
