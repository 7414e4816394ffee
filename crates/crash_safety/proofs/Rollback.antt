-- A rollback keeps the invariant: the slot is idle, its sets are empty.
use Prim.Native.Nat.{ℕ, ◌≤◌, ◌<◌}
use native.Mathlib.Omega.{arith}
use mathlib.Core.Path.{refl}
use mathlib.Core.Bool.{Bool}
use lib.ListN.{length}
use Rattle.bitmap.specs.Blocks.{member}
use Rattle.model_types.specs.Memory.{idle_slot, sam_bit}
use Rattle.model.specs.Rules.Rollback.{rolled_back_com, rolled_back}
use Rattle.model.proofs.Laws.Calls.Accepted.{Ready}
use Rattle.crash_safety.specs.Ledger.{no_sets, Ledger, with_sets, holders}
use Rattle.crash_safety.specs.World.{World, world_of}
use Rattle.crash_safety.proofs.Invariant.{Tied, Invariant}
use Rattle.crash_safety.proofs.Touching.{sets-there, moving, holders-set}

idle-tie : (sam : ℕ → Bool) → Tied sam idle_slot no_sets
unfolding member
idle-tie sam = record { taken = λ b. refl; freed = λ b. refl }

fewer : (ledger : Ledger) (s b : ℕ) → s < length ledger.slots → holders ledger b ≤ 1 → holders (with_sets ledger s no_sets) b ≤ 1
unfolding member
fewer ledger s b h k = omega (arith, holders-set ledger s b no_sets h)

pub rollback-keeps : (w : World) (s : ℕ) → Invariant w → Ready w.memory s
    → Invariant (world_of (rolled_back w.memory s) w.disk (with_sets w.ledger s no_sets))
unfolding rolled_back
rollback-keeps w s i ready =
    moving w s i ready w.memory.cursor _ idle_slot (rolled_back_com w.memory s) no_sets (idle-tie (sam_bit w.memory))
    (λ b. fewer w.ledger s b (sets-there w s i ready) (i.one_holder b))
