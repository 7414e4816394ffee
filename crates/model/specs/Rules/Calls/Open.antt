-- Open. "If p is 0, it makes no store. Otherwise it answers p + 1 ... The memory given holds the logged map from the
-- start, all seats idle, COM equal to SAM." The disk stays as it is.
use Rattle.std.specs.Prelude.{ℕ, zero, suc, ◌+◌, List, [], ◌∷◌}
use Rattle.std.proofs.Math.Option.{Option}
use Rattle.model.specs.Types.{Error, Pending, Nothing, Recovery, Memory, DiskLength, DiskBlocks, DiskBitmap, DiskLog, Answer}
use Rattle.model.specs.Rules.First.{first, ◌⇒◌, unless_refused}
use Rattle.model_types.specs.Answers.{answer}
use Rattle.model_types.specs.Memory.{quiet_memory, zero_memory, bitmap}
use Rattle.model.specs.Rules.Disk.{disk_blocks, log_length, durable}
use Rattle.model.specs.Rules.Causes.{disk_length_wrong, disk_blocks_wrong, disk_bitmap_wrong, disk_log_wrong}

unfoldable pub open_error : List ℕ → Option Error
open_error disk =
    first
    (disk_length_wrong disk ⇒ DiskLength
    ∷ disk_blocks_wrong disk ⇒ DiskBlocks
    ∷ disk_bitmap_wrong disk ⇒ DiskBitmap
    ∷ disk_log_wrong disk ⇒ DiskLog
    ∷ [])

-- the stores of a recovery from a log of p entries: p + 1, and none where p is 0
unfoldable pub recovery_due : ℕ → ℕ
recovery_due zero = 0
recovery_due (suc p) = suc p + 1

unfoldable pub recovery_pending : ℕ → Pending
recovery_pending zero = Nothing
recovery_pending (suc p) = Recovery 0 (recovery_due (suc p))

unfoldable pub opened : List ℕ → Memory
opened disk = quiet_memory (disk_blocks disk) (bitmap (durable disk)) (recovery_pending (log_length disk))

unfoldable pub open_answer : List ℕ → Answer ℕ
open_answer disk = answer (open_error disk) (recovery_due (log_length disk))

-- "refused, it returns a memory of zeros"
unfoldable pub open_memory : List ℕ → Memory
open_memory disk = unless_refused (open_error disk) (opened disk) zero_memory
