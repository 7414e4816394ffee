-- A change of one slot leaves a valid memory, and SAM as it was.
use Prim.Native.Nat.{ℕ}
use native.Mathlib.Omega.{arith}
use mathlib.Core.Path.{◌≡◌, ap, ◌∙◌}
use mathlib.Core.List.{List}
use lib.ListN.{length}
use Rattle.bitmap.specs.Sizes.{slot_count}
use Rattle.bitmap.specs.declared.Bitmap.{Bitmap}
use Rattle.model_types.specs.declared.memory.Memory.{Memory}
use Rattle.model.specs.Rules.Work.{Change, changed}
use Rattle.model.proofs.Laws.Calls.Accepted.{Ready}
use Rattle.model.proofs.Laws.Works.Work.{ChangeMade}
use Rattle.model.proofs.Laws.Works.Change.{change-frame}
use Rattle.model.proofs.Laws.Works.ChangeMade.{change-leaves}
use Rattle.model.proofs.Laws.Memory.Valid.{valid-parts}
use Rattle.crash_safety.specs.InOrder.{Consistent}
use Rattle.crash_safety.proofs.InOrder.Same.{same_sam}

pub change-consistent : (memory : Memory) (disk : List ℕ) → length memory.slots ≡ slot_count → Consistent memory disk
    → (s : ℕ) (change : Change) → Ready memory s → ChangeMade change memory s → Consistent (changed change memory s) disk
change-consistent memory disk eight c s change ready a =
    let frame = change-frame memory s change in
    same_sam memory (changed change memory s) disk ready.none_pending (frame.pending ∙ ready.none_pending) frame.blocks
    (ap (λ (sam : Bitmap). sam.words) frame.sam) c
    (change-leaves memory (valid-parts memory c.is_valid) s ready (omega (arith, ready.below)) change a).valid
