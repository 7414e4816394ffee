-- A store's causes 1, 2, 6 and 9, in turn.
use Prim.Native.Nat.{ℕ}
use mathlib.Core.Path.{◌≡◌, refl, sym}
use mathlib.Core.Bool.{true, false}
use mathlib.Core.Option.{some}
use mathlib.Core.List.{List, [], ◌∷◌}
use lib.ListN.{length}
use borrow.Author.Tests.{eq-eqb, ne_eqb, not-false}
use Rattle.std.specs.Prelude.{Option, Ok, Err}
use Rattle.model_types.specs.declared.error.Error.{Error}
use Rattle.model_types.specs.declared.error.Error.TheVariants.{MemoryInvalid, DiskLength, DiskMismatch, NothingPending}
use Rattle.model_types.specs.declared.memory.Memory.{Memory}
use Rattle.model_types.specs.Answers.{answer}
use Rattle.model_types.specs.Pending.{is_nothing}
use Rattle.model.specs.Rules.Sizes.{disk_words}
use Rattle.model.specs.Rules.First.{first, first_or, ◌⇒◌}
use Rattle.model.specs.Rules.Valid.{valid}
use Rattle.model.specs.Rules.Disk.{disk_matches}
use Rattle.model.specs.Rules.Causes.{memory_invalid, disk_length_wrong, disk_mismatched, nothing_pending}
use Rattle.model.specs.Rules.Calls.Status.{status_error}
use Rattle.model.specs.Rules.Calls.Store.{store_error}
use Rattle.model.proofs.Laws.Calls.Answered.{told-answer, told-refusal}
use Rattle.model.proofs.Laws.Calls.First.{first-none}
use Rattle.model.proofs.Laws.Calls.Turns.{some-before}
use Rattle.validity.specs.Checked.{counted_for}

-- 1, by the memory's test
pub sound : {told : Option ℕ} (memory : Memory) → Ok told ≡ answer (status_error memory) (counted_for memory) → valid memory ≡ true
unfolding status_error memory_invalid
sound memory e = not-false (valid memory) (first-none _ (told-answer _ _ _ (sym e)).0).0

module _ (memory : Memory) (disk : List ℕ) where
  pub by-check : {error : Error} → Err error ≡ answer (status_error memory) (counted_for memory) → store_error memory disk ≡ some error
  unfolding status_error store_error
  by-check {error = error} e = some-before (memory_invalid (valid memory) ⇒ MemoryInvalid ∷ []) _ error (told-refusal _ _ _ (sym e))

  -- 2
  pub by-length : valid memory ≡ true → (length disk ≡ disk_words → ⊥) → store_error memory disk ≡ some DiskLength
  unfolding store_error first first_or memory_invalid disk_length_wrong
  by-length v n = rw (v, ne_eqb (length disk) disk_words n) refl

  module _ (v : valid memory ≡ true) (size : length disk ≡ disk_words) where
    -- 6
    pub by-disk : disk_matches memory disk memory.pending ≡ false → store_error memory disk ≡ some DiskMismatch
    unfolding store_error first first_or memory_invalid disk_length_wrong disk_mismatched disk_matches
    by-disk m = rw (v, eq-eqb (length disk) disk_words size, m) refl

    -- 9
    pub by-pending : disk_matches memory disk memory.pending ≡ true → is_nothing memory.pending ≡ true → store_error memory disk ≡ some NothingPending
    unfolding store_error first first_or memory_invalid disk_length_wrong disk_mismatched disk_matches nothing_pending
    by-pending m n = rw (v, eq-eqb (length disk) disk_words size, m, n) refl
