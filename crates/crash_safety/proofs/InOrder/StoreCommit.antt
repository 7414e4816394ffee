-- A store of a commit: one more is done, or the commit ends, and the disk is as that leaves it.
use Prim.Native.Nat.{ℕ, ◌+◌, ◌<◌}
use native.Mathlib.Omega.{arith}
use mathlib.Core.Path.{◌≡◌, refl, sym, ap, ◌∙◌}
use mathlib.Core.Bool.{Bool, true, false, cond}
use mathlib.Core.List.{List}
use lib.ListN.{length, take, drop}
use lib.Dec.{eqb}
use borrow.Author.Tests.{eqb-true, eqb-false}
use Rattle.bitmap.specs.Sizes.{slot_count}
use Rattle.bitmap.specs.Bits.{IsBitmap}
use Rattle.model_types.specs.declared.memory.Memory.{Memory}
use Rattle.model_types.specs.declared.memory.Pending.TheVariants.{Commit}
use Rattle.model.specs.Rules.Sizes.{disk_words, log_at}
use Rattle.model_types.specs.Memory.{slot_at, with_pending}
use Rattle.model_types.specs.Pending.{is_nothing}
use Rattle.model.specs.Rules.Stores.{writes, commit_stores}
use Rattle.model.specs.Rules.Commit.{committed_sam, entries_of, changed_of, committed}
use Rattle.model.specs.Rules.Pending.{stores_done, stores_due, one_more_done, finished}
use Rattle.model.specs.Rules.Valid.{pending_valid}
use Rattle.model.specs.Rules.Disk.{disk_of, image_matches}
use Rattle.model.specs.Rules.Calls.Store.{advanced}
use Rattle.model.proofs.Laws.Disk.Writes.{length-writes}
use Rattle.model.proofs.Laws.Memory.Valid.{ValidParts, parts-valid}
use Rattle.model.proofs.Laws.Commit.Committed.{committed-bitmap, committed-valid}
use Rattle.model.proofs.Laws.Works.Pending.{CommitParts, commit-parts, precommitted-active, precommitted-below, unfinished, more-valid}
use Rattle.model.proofs.Laws.Disk.CommitLog.{commit-end, commit-own-log, logged}
use Rattle.model.proofs.Laws.Disk.Matching.{rest-matches, commit-matches, is-image, quiet-matches}
use Rattle.crash_safety.specs.InOrder.{Consistent}
use Rattle.crash_safety.proofs.CommitDisk.{disk_after, from, written, next-disk}

module _ (memory : Memory) (disk : List ℕ) (s k due : ℕ) (parts : ValidParts memory) (sam : IsBitmap memory.sam.words)
    (size : length disk ≡ disk_words)
    (eight : length memory.slots ≡ slot_count)
    (pending : pending_valid memory (Commit s k due) ≡ true)
    (matches : image_matches memory.blocks memory.sam.words disk k (commit_stores (entries_of memory s)) ≡ true) where
  commit : CommitParts memory s k due
  commit = commit-parts memory s k due pending

  abbrev stored : List ℕ
  stored = writes (take 1 (drop k (commit_stores (entries_of memory s)))) disk

  disk_is : stored ≡ disk_after memory disk s (k + 1)
  disk_is = next-disk memory disk s parts sam size k matches

  stored-size : length stored ≡ disk_words
  stored-size = length-writes (take 1 (drop k (commit_stores (entries_of memory s)))) disk ∙ size

  -- more to come: the disk's own log words serve as well as those that the commit found
  more : k + 1 < due → Consistent (with_pending memory (Commit s (k + 1) due)) stored
  unfolding stores_done stores_due one_more_done entries_of committed_sam
  more h =
      record {
        is_valid = parts-valid (with_pending memory (Commit s (k + 1) due)) (more-valid memory (Commit s k due) parts pending h);
        size = stored-size;
        matches =
            commit-matches (with_pending memory (Commit s (k + 1) due)) stored s (k + 1) due
            ∙ is-image memory.blocks memory.sam.words stored (k + 1) (commit_stores (entries_of memory s))
            (ap (λ (d : List ℕ). disk_after memory d s (k + 1)) disk_is
            ∙ commit-own-log memory.blocks memory.sam.words (drop log_at disk) (entries_of memory s) (from memory disk s parts sam size) (k + 1)
            ∙ sym disk_is);
      }

  -- the last store: SAM is on the disk, word 1 is 0
  last : k + 1 ≡ due → Consistent (committed memory s) stored
  unfolding committed changed_of
  last e =
      record {
        is_valid =
            parts-valid (committed memory s)
            (committed-valid memory s parts
            (omega (arith, precommitted-below memory s eight commit.precommitted))
            (precommitted-active (slot_at memory s).state commit.precommitted));
        size = stored-size;
        matches =
            rest-matches (committed memory s) stored
            ∙ quiet-matches stored memory.blocks (committed_sam memory s).words (logged (drop log_at disk) (entries_of memory s))
            (committed-bitmap memory s).size
            (disk_is
            ∙ commit-end memory.blocks memory.sam.words (drop log_at disk) (entries_of memory s) (from memory disk s parts sam size) (k + 1)
            (omega (arith, commit.due_is, e))
            ∙ ap (λ (words : List ℕ). disk_of memory.blocks 0 words (logged (drop log_at disk) (entries_of memory s)))
            (written memory disk s parts sam size));
      }

  pub commit-store : Consistent (advanced memory (Commit s k due)) stored
  unfolding advanced stores_done stores_due one_more_done finished is_nothing
  commit-store = go (eqb (k + 1) due) refl
    where
      go : (t : Bool) → eqb (k + 1) due ≡ t → Consistent (cond t (committed memory s) (with_pending memory (Commit s (k + 1) due))) stored
      go true e = last (eqb-true (k + 1) due e)
      go false e = more (omega (arith, eqb-false (k + 1) due e, unfinished memory (Commit s k due) pending refl))
