-- Works that leave SAM.
use Prim.Native.Nat.{ℕ}
use mathlib.Core.Path.{◌≡◌}
use mathlib.Core.List.{List}
use Rattle.model_types.specs.declared.memory.Memory.{Memory}
use Rattle.model_types.specs.declared.memory.Pending.TheVariants.{Nothing}
use Rattle.model.proofs.Laws.Memory.Valid.{ValidParts, parts-valid}
use Rattle.model.proofs.Laws.Disk.Matching.{matches-stays}
use Rattle.crash_safety.specs.InOrder.{Consistent}

-- with nothing pending a disk is consistent with every valid memory of the same m and SAM
pub same_sam : (memory other : Memory) (disk : List ℕ)
    → memory.pending ≡ Nothing
    → other.pending ≡ Nothing
    → other.blocks ≡ memory.blocks
    → other.sam.words ≡ memory.sam.words
    → Consistent memory disk
    → ValidParts other
    → Consistent other disk
same_sam memory other disk before after blocks sam c parts =
    record {
      is_valid = parts-valid other parts;
      size = c.size;
      matches = matches-stays memory other disk before after blocks sam c.matches;
    }
