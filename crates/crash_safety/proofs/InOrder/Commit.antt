-- Commit: it ends at once where no word changes, and else its stores are pending, none of them done.
use Prim.Native.Nat.{ℕ, ◌<◌}
use native.Mathlib.Omega.{arith}
use mathlib.Core.Path.{◌≡◌, refl, sym}
use mathlib.Core.Bool.{Bool, true, false, cond}
use mathlib.Core.List.{List}
use lib.ListN.{length}
use lib.Dec.{eqb}
use borrow.Author.Tests.{eqb-true}
use Rattle.bitmap.specs.Sizes.{slot_count}
use Rattle.bitmap.specs.Bits.{IsBitmap}
use Rattle.model_types.specs.declared.memory.Memory.{Memory}
use Rattle.model_types.specs.declared.memory.Pending.TheVariants.{Commit}
use Rattle.model_types.specs.Memory.{with_pending}
use Rattle.model.specs.Rules.Commit.{changed_of, commit_due, committed}
use Rattle.model.specs.Rules.Calls.Commit.{committing}
use Rattle.model.proofs.Laws.Memory.Valid.{ValidParts, valid-parts, parts-valid}
use Rattle.model.proofs.Laws.Commit.Committed.{committed-valid}
use Rattle.model.proofs.Laws.Works.Pending.{begun-valid}
use Rattle.model.proofs.Laws.Disk.Matching.{matches-begun}
use Rattle.crash_safety.specs.InOrder.{Consistent}
use Rattle.model.proofs.Laws.Calls.Accepted.{CommitAccepted}
use Rattle.crash_safety.proofs.Commit.{unchanged}
use Rattle.crash_safety.proofs.InOrder.Same.{same_sam}

module _ (memory : Memory) (disk : List ℕ) (s : ℕ) (c : Consistent memory disk) (a : CommitAccepted memory s) where
  parts : ValidParts memory
  parts = valid-parts memory c.is_valid

  -- d is 0
  ended : IsBitmap memory.sam.words → s < length memory.slots → changed_of memory s ≡ 0 → Consistent (committed memory s) disk
  unfolding committed
  ended sam h e =
      same_sam memory (committed memory s) disk a.ready.none_pending refl refl (sym (unchanged memory s sam e)) c
      (committed-valid memory s parts h a.active)

  -- d is not 0
  begun : eqb (changed_of memory s) 0 ≡ false → Consistent (with_pending memory (Commit s 0 (commit_due memory s))) disk
  begun changes-some =
      record {
        is_valid = parts-valid (with_pending memory (Commit s 0 (commit_due memory s))) (begun-valid memory s changes-some parts a.precommitted);
        size = c.size;
        matches = matches-begun memory disk s (commit_due memory s) a.ready.none_pending c.matches;
      }

pub commit-consistent : (memory : Memory) (disk : List ℕ) (s : ℕ)
    → length memory.slots ≡ slot_count
    → IsBitmap memory.sam.words
    → Consistent memory disk
    → CommitAccepted memory s
    → Consistent (committing memory s) disk
unfolding committing
commit-consistent memory disk s eight sam c a = go (eqb (changed_of memory s) 0) refl
  where
    go : (t : Bool) → eqb (changed_of memory s) 0 ≡ t
        → Consistent (cond t (committed memory s) (with_pending memory (Commit s 0 (commit_due memory s)))) disk
    go true e = ended memory disk s c a sam (omega (arith, a.ready.below)) (eqb-true (changed_of memory s) 0 e)
    go false e = begun memory disk s c a e
