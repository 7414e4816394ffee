-- Pending work, kind by kind: how far it has come with one more store, what its last one makes, and how it begins. What holds of every
-- kind is proved by these laws.
use Prim.Native.Nat.{ℕ, suc, ◌+◌}
use native.Mathlib.Omega.{arith}
use mathlib.Core.Path.{◌≡◌, refl, sym, ap, ◌∙◌}
use mathlib.Core.Bool.{Bool, true, false, cond, true≢false}
use lib.ListN.{length}
use lib.Dec.{eqb}
use borrow.Author.Tests.{eqb-true, ne_eqb}
use Rattle.model.specs.Types.{Pending, Nothing, Commit, Recovery, Memory}
use Rattle.model_types.specs.Memory.{with_pending}
use Rattle.model_types.specs.Pending.{stores_for, is_nothing}
use Rattle.model.specs.Rules.Stores.{commit_stores}
use Rattle.model.specs.Rules.Commit.{committed_sam, entries_of, changed_of, commit_due, refreshed, committed}
use Rattle.model.specs.Rules.Pending.{stores_done, stores_due, one_more_done, finished, begun, stores_left, is_commit_of}
use Rattle.model.specs.Rules.Calls.Commit.{committing}
use Rattle.model.specs.Rules.Calls.Store.{advanced}
use Rattle.model.proofs.Laws.Disk.StoreLists.{length-commit_stores}

-- what holds of both holds of whichever it is
pub either : {A : Type 0} (P : A → Type 0) (t : Bool) {x y : A} → P x → P y → P (cond t x y)
either P true p q = p
either P false p q = q

-- ---- one more store

-- one more is done,
pub one-done : (p : Pending) → is_nothing p ≡ false → stores_done (one_more_done p) ≡ stores_done p + 1
unfolding is_nothing one_more_done stores_done
one-done Nothing n = absurd (true≢false n)
one-done (Commit s done due) n = refl
one-done (Recovery done due) n = refl

-- of as many,
pub same-due : (p : Pending) → stores_due (one_more_done p) ≡ stores_due p
unfolding one_more_done stores_due
same-due Nothing = refl
same-due (Commit s done due) = refl
same-due (Recovery done due) = refl

-- of the same commit
pub same-commit : (s : ℕ) (p : Pending) → is_commit_of s (one_more_done p) ≡ is_commit_of s p
unfolding one_more_done
same-commit s Nothing = refl
same-commit s (Commit t done due) = refl
same-commit s (Recovery done due) = refl

-- what has stores left is pending, and has one fewer left
pub some_left : (p : Pending) (n : ℕ) → stores_left p ≡ suc n → is_nothing p ≡ false
unfolding stores_left stores_done stores_due is_nothing
some_left Nothing n e = absurd (omega (arith, e))
some_left (Commit s done due) n e = refl
some_left (Recovery done due) n e = refl

pub one_fewer : (p : Pending) (n : ℕ) → stores_left p ≡ suc n → stores_left (one_more_done p) ≡ n
unfolding stores_left
one_fewer p n e = omega (arith, one-done p (some_left p n e), same-due p, e)

-- ---- the last one

-- nothing is pending then
pub finished-pending : (memory : Memory) (p : Pending) → is_nothing p ≡ false → (finished memory p).pending ≡ Nothing
unfolding is_nothing finished committed
finished-pending memory Nothing n = absurd (true≢false n)
finished-pending memory (Commit s done due) n = refl
finished-pending memory (Recovery done due) n = refl

-- what it makes doesn't ask what was pending,
finished-any : (memory : Memory) (was p : Pending) → is_nothing p ≡ false → finished (with_pending memory was) p ≡ finished memory p
unfolding is_nothing finished committed committed_sam refreshed
finished-any memory was Nothing n = absurd (true≢false n)
finished-any memory was (Commit s done due) n = refl
finished-any memory was (Recovery done due) n = refl

-- nor how many are done
finished-more : (memory : Memory) (p : Pending) → finished memory (one_more_done p) ≡ finished memory p
unfolding one_more_done finished
finished-more memory Nothing = refl
finished-more memory (Commit s done due) = refl
finished-more memory (Recovery done due) = refl

pub finished-later : (memory : Memory) (p : Pending) → is_nothing p ≡ false → finished (with_pending memory (one_more_done p)) (one_more_done p) ≡ finished memory p
finished-later memory p n = finished-more (with_pending memory (one_more_done p)) p ∙ finished-any memory (one_more_done p) p n

-- where nothing is pending nothing is finished
pub finished-none : (memory : Memory) (p : Pending) → p ≡ Nothing → finished memory p ≡ memory
unfolding finished
finished-none memory p e = ap (finished memory) e

-- ---- how it begins

-- a commit is pending with its stores, or ended at once where it changes no word
pub committing-begun : (memory : Memory) (s : ℕ) → committing memory s ≡ begun memory (Commit s 0 (commit_due memory s))
unfolding committing begun commit_due stores_due finished
committing-begun memory s = go (eqb (changed_of memory s) 0) (length (commit_stores (entries_of memory s))) (length-commit_stores (entries_of memory s))
  where
    go : (t : Bool) (n : ℕ) → n ≡ stores_for (length (entries_of memory s))
        → cond t (committed memory s) (with_pending memory (Commit s 0 (cond t 0 n)))
        ≡ cond (eqb (cond t 0 n) 0) (committed memory s) (with_pending memory (Commit s 0 (cond t 0 n)))
    go true n e = refl
    go false n e = ap (λ (u : Bool). cond u (committed memory s) (with_pending memory (Commit s 0 n))) (sym (ne_eqb n 0 (λ z. omega (arith, z, e))))

-- work that begins is finished by what it makes, with stores or without
pub begun-finished : (memory : Memory) (p : Pending) → is_nothing p ≡ false → finished (begun memory p) (begun memory p).pending ≡ finished memory p
unfolding begun
begun-finished memory p n =
    either (λ (m : Memory). finished m m.pending ≡ finished memory p) (eqb (stores_due p) 0)
    (finished-none (finished memory p) _ (finished-pending memory p n)) (finished-any memory p p n)

-- and has as many stores left as are due
pub begun-left : (memory : Memory) (p : Pending) → is_nothing p ≡ false → stores_done p ≡ 0 → stores_left (begun memory p).pending ≡ stores_due p
unfolding begun stores_left stores_due stores_done
begun-left memory p n z = go (eqb (stores_due p) 0) refl
  where
    go : (t : Bool) → eqb (stores_due p) 0 ≡ t → stores_left (cond t (finished memory p) (with_pending memory p)).pending ≡ stores_due p
    go true e = ap stores_left (finished-pending memory p n) ∙ sym (eqb-true (stores_due p) 0 e)
    go false e = omega (arith, z)

-- ---- what every kind keeps

-- what holds of the memory with nothing pending, and of the one that a pending commit makes, holds then; after the next store, where it
-- holds with one more done; and after new work, which ends at once or is pending
module _ (P : Memory → Type 0) (memory : Memory) where
  pub by-finish : P memory → P (with_pending memory Nothing) → (p : Pending) → ((t done due : ℕ) → p ≡ Commit t done due → P (committed memory t))
      → P (finished memory p)
  unfolding finished
  by-finish same ended Nothing commit = same
  by-finish same ended (Commit t done due) commit = commit t done due refl
  by-finish same ended (Recovery done due) commit = ended

  pub by-store : (p : Pending) → P (finished memory p) → P (with_pending memory (one_more_done p)) → P (advanced memory p)
  unfolding advanced
  by-store p last more = either P (eqb (stores_done p + 1) (stores_due p)) last more

  pub by-begin : (p : Pending) → P (finished memory p) → P (with_pending memory p) → P (begun memory p)
  unfolding begun
  by-begin p ended pends = either P (eqb (stores_due p) 0) ended pends
