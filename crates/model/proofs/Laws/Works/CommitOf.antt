-- A slot's commit comes to be pending by a commit of that slot, and by no other work.
use Prim.Native.Nat.{ℕ, zero, suc}
use mathlib.Core.Path.{◌≡◌, refl, ap, ◌∙◌}
use mathlib.Core.Bool.{false}
use mathlib.Core.List.{List}
use Rattle.model.specs.Types.{Pending, Memory}
use Rattle.model.specs.Rules.Commit.{committed}
use Rattle.model.specs.Rules.Disk.{log_length}
use Rattle.model.specs.Rules.Calls.Open.{recovery_pending, opened}
use Rattle.model.specs.Rules.Work.{Work, open_work, crash_work, store_work, begin_work, change_work, worked}
use Rattle.model.specs.Rules.Pending.{finished, is_commit_of}
use Rattle.model.proofs.Laws.Works.Change.{change-frame}
use Rattle.model.proofs.Laws.Works.Progress.{same-commit, by-finish, by-store, by-begin}

module _ (s : ℕ) where
  -- another work is pending, or none
  abbrev Elsewhere : Memory → Type 0
  Elsewhere memory = is_commit_of s memory.pending ≡ false

  -- a recovery
  recovered : (p : ℕ) → is_commit_of s (recovery_pending p) ≡ false
  unfolding recovery_pending
  recovered zero = refl
  recovered (suc p) = refl

  -- what the last store of a work leaves
  finished-elsewhere : (memory : Memory) → Elsewhere memory → (p : Pending) → Elsewhere (finished memory p)
  unfolding committed
  finished-elsewhere memory q p = by-finish Elsewhere memory q refl p (λ _ _ _ _. refl)

  -- work by work
  pub elsewhere-worked : (new : Work) (memory : Memory) (disk : List ℕ) → ((p : Pending) → new ≡ begin_work p → is_commit_of s p ≡ false) → Elsewhere memory → Elsewhere (worked new memory disk)
  unfolding worked opened
  elsewhere-worked open_work memory disk n p = recovered (log_length disk)
  elsewhere-worked crash_work memory disk n p = refl
  elsewhere-worked store_work memory disk n p =
      by-store Elsewhere memory memory.pending (finished-elsewhere memory p memory.pending) (same-commit s memory.pending ∙ p)
  elsewhere-worked (begin_work new) memory disk n p = by-begin Elsewhere memory new (finished-elsewhere memory p new) (n new refl)
  elsewhere-worked (change_work t change) memory disk n p = ap (is_commit_of s) (change-frame memory t change).pending ∙ p
