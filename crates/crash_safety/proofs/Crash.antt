-- A crash keeps the invariant, and so does an open: it finds what the disk stands for.
use Prim.Native.Nat.{ℕ, zero, suc, ◌≤◌}
use native.Mathlib.Omega.{arith}
use mathlib.Core.Path.{◌≡◌, refl, sym, ap, ◌∙◌, subst}
use mathlib.Core.Bool.{false, false≢true}
use mathlib.Core.Option.{Option, none}
use mathlib.Core.List.{List}
use lib.ListN.{length, get_or, replicate, length-map}
use Rattle.bitmap.specs.Sizes.{slot_count, blocks_in_range}
use Rattle.bitmap.specs.Bits.{bit}
use Rattle.bitmap.specs.Blocks.{member}
use Rattle.model_types.specs.declared.error.Error.{Error}
use Rattle.model_types.specs.declared.memory.Memory.{Memory}
use Rattle.model_types.specs.declared.memory.Slot.{Slot}
use Rattle.model_types.specs.declared.memory.Pending.{Pending}
use Rattle.model_types.specs.Memory.{zero_memory, idle_slot, quiet_memory, bitmap}
use Rattle.model.specs.Rules.First.{unless_refused}
use Rattle.model.specs.Rules.Valid.{valid}
use Rattle.model.specs.Rules.Disk.{disk_blocks, log_length, durable}
use Rattle.model.specs.Rules.Calls.Open.{open_error, recovery_pending, opened, open_memory}
use Rattle.model.proofs.Laws.Disk.Durable.{durable-length}
use Rattle.crash_safety.specs.Ledger.{Sets, no_sets, Ledger, crashed_sets, crashed, holders}
use Rattle.crash_safety.specs.World.{World, world_of}
use Rattle.crash_safety.proofs.Holders.{one-le, crashed-sets, takers-crashed}
use Rattle.crash_safety.proofs.Invariant.{Tied, Plain, PendingTied, Invariant, same-disk}
use Rattle.crash_safety.proofs.Small.{durable-small}

-- the memory of zeros isn't valid
pub zero-invalid : valid zero_memory ≡ false
unfolding valid blocks_in_range
zero-invalid = refl

-- an element of n alike, and the same past their end
pub alike : {A : Type 0} (n t : ℕ) (a : A) → get_or (replicate n a) t a ≡ a
alike zero t a = refl
alike (suc n) zero a = refl
alike (suc n) (suc t) a = alike n t a

crashed-holders : (ledger : Ledger) (b : ℕ) → holders (crashed ledger) b ≤ 1
unfolding holders crashed
crashed-holders ledger b = omega (arith, one-le (member b ledger.allocated), takers-crashed b ledger.slots)

crashed-length : (ledger : Ledger) → length (crashed ledger).slots ≡ length ledger.slots
unfolding crashed
crashed-length ledger = length-map ledger.slots crashed_sets

-- ---- a crash

pub crash-keeps : (w : World) → Invariant w → Invariant (world_of zero_memory w.disk (crashed w.ledger))
unfolding crashed
crash-keeps w i =
    same-disk w zero_memory (crashed w.ledger) i refl (crashed-holders w.ledger) (crashed-length w.ledger ∙ i.slots)
    (λ v. absurd (false≢true (sym zero-invalid ∙ v)))

-- ---- an open

-- a memory just opened is related to the ledger after a crash
idle-plain : (disk : List ℕ) (pending : Pending) (ledger : Ledger)
    → ((b : ℕ) → bit (durable disk) b ≡ member b ledger.allocated)
    → Plain (quiet_memory (disk_blocks disk) (bitmap (durable disk)) pending) (crashed ledger) none
unfolding crashed member
idle-plain disk pending ledger kept =
    record {
      finds = kept;
      slots = λ t.
          subst (λ (sets : Sets). Tied (bit (durable disk)) (get_or (replicate slot_count idle_slot) t idle_slot) sets) (sym (crashed-sets ledger.slots t))
          (subst (λ (slot : Slot). Tied (bit (durable disk)) slot no_sets) (sym (alike slot_count t idle_slot))
          (record { taken = λ b. refl; freed = λ b. refl }));
      counted = refl;
    }

pub open-keeps : (w : World) → Invariant w → Invariant (world_of (opened w.disk) w.disk (crashed w.ledger))
unfolding opened crashed recovery_pending
open-keeps w i =
    same-disk w (opened w.disk) (crashed w.ledger) i refl (crashed-holders w.ledger) (crashed-length w.ledger ∙ i.slots)
    (λ _.
    record {
      sam = record { size = durable-length w.disk i.opens; small = durable-small w.disk i.small };
      slots = refl;
      pending = by-log (log_length w.disk);
    })
  where
    memory : Memory
    memory = quiet_memory (disk_blocks w.disk) (bitmap (durable w.disk)) (recovery_pending (log_length w.disk))

    by-log : (p : ℕ) → PendingTied memory (crashed w.ledger) (recovery_pending p)
    by-log zero = idle-plain w.disk (recovery_pending (log_length w.disk)) w.ledger i.kept
    by-log (suc p) = idle-plain w.disk (recovery_pending (log_length w.disk)) w.ledger i.kept

-- an open that isn't refused
pub open-memory : (disk : List ℕ) → open_error disk ≡ none → open_memory disk ≡ opened disk
unfolding open_memory unless_refused
open-memory disk e = ap (λ (x : Option Error). unless_refused x (opened disk) zero_memory) e
