-- Store, by the pending work.
use Prim.Native.Nat.{ℕ}
use mathlib.Core.Path.{◌≡◌, sym, ◌∙◌}
use mathlib.Core.Bool.{true, false, true≢false}
use mathlib.Core.List.{List}
use lib.ListN.{length}
use Rattle.bitmap.specs.Sizes.{slot_count}
use Rattle.bitmap.specs.Bits.{IsBitmap}
use Rattle.model_types.specs.declared.memory.Memory.{Memory}
use Rattle.model_types.specs.declared.memory.Pending.{Pending}
use Rattle.model_types.specs.declared.memory.Pending.TheVariants.{Nothing, Commit, Recovery}
use Rattle.model.specs.Rules.Stores.{checkpoint_stores}
use Rattle.model.specs.Rules.Commit.{entries_of}
use Rattle.model_types.specs.Pending.{is_nothing}
use Rattle.model.specs.Rules.Pending.{stores_done, new_sam}
use Rattle.model.specs.Rules.Valid.{pending_valid}
use Rattle.model.specs.Rules.Disk.{stores_of, next_disk, disk_matches}
use Rattle.model.specs.Rules.Calls.Store.{advanced, next_stored}
use Rattle.model.proofs.Laws.Calls.Accepted.{StoreAccepted}
use Rattle.model.proofs.Laws.Memory.Valid.{ValidParts, valid-parts}
use Rattle.model.proofs.Laws.Disk.Matching.{commit-matches, recovery-matches, matching-parts}
use Rattle.model.proofs.Laws.Works.Stored.{recovery-opens}
use Rattle.crash_safety.specs.InOrder.{Consistent}
use Rattle.crash_safety.proofs.InOrder.StoreCommit.{commit-store}
use Rattle.crash_safety.proofs.InOrder.StoreRecovery.{recovery-store}

module _ (memory : Memory) (disk : List ℕ) (eight : length memory.slots ≡ slot_count) (sam : IsBitmap memory.sam.words)
    (c : Consistent memory disk) where
  parts : ValidParts memory
  parts = valid-parts memory c.is_valid

  by-pending : (p : Pending) → is_nothing p ≡ false → pending_valid memory p ≡ true → disk_matches memory disk p ≡ true
      → Consistent (advanced memory p) (next_disk memory.sam.words (new_sam memory p) disk p)
  unfolding is_nothing stores_done next_disk stores_of new_sam entries_of checkpoint_stores
  by-pending Nothing e valid matches = absurd (true≢false e)
  by-pending (Commit s k due) e valid matches = commit-store memory disk s k due parts sam c.size eight valid (sym (commit-matches memory disk s k due) ∙ matches)
  by-pending (Recovery k due) e valid matches =
      let m = matching-parts memory.blocks memory.sam.words disk k due (sym (recovery-matches memory disk k due) ∙ matches) in
      recovery-store memory disk k due parts c.size (recovery-opens memory disk k due parts c.size m) valid m

  pub store-consistent : StoreAccepted memory disk → Consistent (advanced memory memory.pending) (next_stored memory disk)
  unfolding next_stored
  store-consistent a = by-pending memory.pending a.pending parts.pending_fits c.matches
