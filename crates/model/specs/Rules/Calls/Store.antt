-- Store. "each store call makes the next", and the work ends with its last store.
use Rattle.std.specs.Prelude.{ℕ, ◌+◌, ◌-◌, cond, List, eqb}
use Rattle.std.proofs.Math.Option.{Option}
use Rattle.model.specs.Types.{Error, Pending, Memory, Answer}
use Rattle.model.specs.Rules.First.{first, unless_refused}
use Rattle.model_types.specs.Answers.{answer}
use Rattle.model_types.specs.Memory.{with_pending}
use Rattle.model.specs.Rules.Pending.{stores_done, stores_due, one_more_done, new_sam, finished}
use Rattle.model.specs.Rules.Valid.{valid}
use Rattle.model.specs.Rules.Disk.{next_disk}
use Rattle.model.specs.Rules.CauseLists.{store_causes}

-- 1, 2, 6 and 9
unfoldable pub store_error : Memory → List ℕ → Option Error
store_error memory disk =
    first (store_causes (valid memory) memory.blocks memory.sam.words (new_sam memory memory.pending) disk memory.pending)

-- the stores still due after the next one
unfoldable pub still_due : Pending → ℕ
still_due pending = stores_due pending - (stores_done pending + 1)

-- the memory after the next store: one more is done, or the work ends
unfoldable pub advanced : Memory → Pending → Memory
advanced memory pending =
    cond (eqb (stores_done pending + 1) (stores_due pending)) (finished memory pending) (with_pending memory (one_more_done pending))

-- the disk after the next store of the list
unfoldable pub next_stored : Memory → List ℕ → List ℕ
next_stored memory disk = next_disk memory.sam.words (new_sam memory memory.pending) disk memory.pending

unfoldable pub store_answer : Memory → List ℕ → Answer ℕ
store_answer memory disk = answer (store_error memory disk) (still_due memory.pending)

unfoldable pub store_memory : Memory → List ℕ → Memory
store_memory memory disk = unless_refused (store_error memory disk) (advanced memory memory.pending) memory

unfoldable pub store_disk : Memory → List ℕ → List ℕ
store_disk memory disk = unless_refused (store_error memory disk) (next_stored memory disk) disk
