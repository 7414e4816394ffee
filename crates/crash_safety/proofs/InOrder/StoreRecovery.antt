-- A store of a recovery: one more is done, or the recovery ends, and the disk is as that leaves it.
use Prim.Native.Nat.{ℕ, ◌+◌, ◌<◌}
use native.Mathlib.Omega.{arith}
use mathlib.Core.Path.{◌≡◌, refl, ◌∙◌}
use mathlib.Core.Bool.{Bool, true, false, cond}
use mathlib.Core.Option.{none}
use mathlib.Core.List.{List}
use lib.ListN.{length, take, drop}
use lib.Dec.{eqb}
use borrow.Author.Tests.{eqb-true, eqb-false}
use Rattle.model_types.specs.declared.memory.Memory.{Memory}
use Rattle.model_types.specs.declared.memory.Pending.TheVariants.{Nothing, Recovery}
use Rattle.model.specs.Rules.Sizes.{disk_words}
use Rattle.model_types.specs.Memory.{with_pending}
use Rattle.model_types.specs.Pending.{is_nothing}
use Rattle.model.specs.Rules.Stores.{closing_stores}
use Rattle.model.specs.Rules.Pending.{stores_done, stores_due, one_more_done, finished}
use Rattle.model.specs.Rules.Valid.{pending_valid}
use Rattle.model.specs.Rules.Calls.Open.{open_error}
use Rattle.model.specs.Rules.Calls.Store.{advanced}
use Rattle.model.proofs.Laws.Disk.Writes.{length-writes}
use Rattle.model.proofs.Laws.Memory.Valid.{ValidParts, parts-valid}
use Rattle.model.proofs.Laws.Touched.Touches.{pending_fits}
use Rattle.model.proofs.Laws.Works.Pending.{unfinished, more-valid}
use Rattle.model.proofs.Laws.Disk.Matching.{rest-matches, recovery-matches, RecoveryMatches, parts-matching}
use Rattle.model.proofs.Laws.Disk.RecoveryLog.{checkpoint_next, checkpointed-matches, cleared-matches}
use Rattle.crash_safety.specs.InOrder.{Consistent}

module _ (memory : Memory) (disk : List ℕ) (k due : ℕ) (parts : ValidParts memory) (size : length disk ≡ disk_words)
    (opens : open_error disk ≡ none)
    (pending : pending_valid memory (Recovery k due) ≡ true)
    (m : RecoveryMatches memory.blocks memory.sam.words disk k due) where
  abbrev stored : List ℕ
  stored = checkpoint_next closing_stores disk k

  stored-size : length stored ≡ disk_words
  stored-size = length-writes (take 1 (drop k _)) disk ∙ size

  more-words : k + 1 < due → Consistent (with_pending memory (Recovery (k + 1) due)) stored
  unfolding stores_done stores_due one_more_done
  more-words h =
      record {
        is_valid = parts-valid (with_pending memory (Recovery (k + 1) due)) (more-valid memory (Recovery k due) parts pending h);
        size = stored-size;
        matches =
            recovery-matches (with_pending memory (Recovery (k + 1) due)) stored (k + 1) due
            ∙ parts-matching memory.blocks memory.sam.words stored (k + 1) due
            (checkpointed-matches closing_stores disk opens k (omega (arith, m.due_is)) memory.blocks memory.sam.words due m);
      }

  word_one_is : k + 1 ≡ due → Consistent (with_pending memory Nothing) stored
  unfolding pending_valid
  word_one_is e =
      record {
        is_valid = parts-valid (with_pending memory Nothing) (pending_fits memory Nothing parts refl);
        size = stored-size;
        matches = rest-matches (with_pending memory Nothing) stored ∙ cleared-matches disk opens memory.blocks memory.sam.words k due (omega (arith, m.due_is)) m;
      }

  pub recovery-store : Consistent (advanced memory (Recovery k due)) stored
  unfolding advanced stores_done stores_due one_more_done finished is_nothing
  recovery-store = go (eqb (k + 1) due) refl
    where
      go : (t : Bool) → eqb (k + 1) due ≡ t → Consistent (cond t (with_pending memory Nothing) (with_pending memory (Recovery (k + 1) due))) stored
      go true e = word_one_is (eqb-true (k + 1) due e)
      go false e = more-words (omega (arith, eqb-false (k + 1) due e, unfinished memory (Recovery k due) pending refl))
