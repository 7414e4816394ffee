-- The memory that an open gives is valid, and the disk is as it leaves it.
use Prim.Native.Nat.{ℕ, zero, suc, ◌+◌, ◌≤◌}
use native.Mathlib.Omega.{arith}
use mathlib.Core.Path.{◌≡◌, refl, sym, ap, ◌∙◌}
use mathlib.Core.Bool.{true}
use mathlib.Core.Option.{none}
use mathlib.Core.List.{List}
use lib.ListN.{length, replicate, drop}
use borrow.Author.Tests.{eq-eqb}
use Rattle.bitmap.specs.Sizes.{slot_count}
use Rattle.bitmap.specs.Bits.{bit}
use Rattle.bitmap.proofs.Laws.Blocks.{all_below-all}
use Rattle.model.specs.Types.{Pending, Nothing, Recovery, Memory}
use Rattle.model_types.specs.Memory.{quiet_memory, bitmap, idle_slot}
use Rattle.model.specs.Rules.Sizes.{log_at}
use Rattle.model.specs.Rules.Stores.{writes, checkpoint_with, closing_stores, checkpoint_stores}
use Rattle.model.specs.Rules.Valid.{all_slots, slot_valid, touches, touches_agree, is_quiet, pending_valid}
use Rattle.model.specs.Rules.Disk.{disk_blocks, word_one, log_length, disk_bitmap, disk_of, entries_in, log_entries, durable, recovery_matches, disk_matches}
use Rattle.model.specs.Rules.Calls.Open.{open_error, recovery_due, recovery_pending, opened}
use Rattle.model.proofs.Laws.Disk.Writes.{and_both, words_same}
use Rattle.model.proofs.Laws.Disk.StoreLists.{length-checkpoint_with}
use Rattle.model.proofs.Laws.Disk.Parts.{Opens, opens-parts, disk-parts, log-valid, told_none}
use Rattle.model.proofs.Laws.Memory.Valid.{ValidParts, idle-valid}
use Rattle.model.proofs.Laws.Memory.Fit.{none-fits}
use Rattle.model.proofs.Laws.Touched.Touches.{one, xor_self}
use Rattle.model.proofs.Laws.Disk.Matching.{rest-matches, recovery-matches, quiet-matches, parts-matching}
use Rattle.model.proofs.Laws.Works.Pending.{parts-recovery}
use Rattle.model.proofs.Laws.Disk.Durable.{entries-length, durable-length, durable-no_bits, durable-agrees}

all-idle : (blocks n : ℕ) → all_slots (slot_valid blocks) (replicate n idle_slot) ≡ true
unfolding all_slots
all-idle blocks zero = refl
all-idle blocks (suc n) = and_both (idle-valid blocks) (all-idle blocks n)

module _ (disk : List ℕ) (opens : open_error disk ≡ none) where
  parts : Opens disk
  parts = opens-parts disk opens

  -- the memory that an open gives, with this work pending
  abbrev memory_with : Pending → Memory
  memory_with pending = quiet_memory (disk_blocks disk) (bitmap (durable disk)) pending

  -- no slot has touched a block, and COM is SAM
  pub quiet-valid : (pending : Pending) → pending_valid (memory_with pending) pending ≡ true → ValidParts (memory_with pending)
  unfolding touches_agree touches
  quiet-valid pending valid =
      record {
        some_blocks = parts.some_blocks;
        few_blocks = parts.few_blocks;
        cursor_below = parts.some_blocks;
        sam_below = durable-no_bits disk opens;
        com_below = durable-no_bits disk opens;
        slots_valid = all-idle (disk_blocks disk) slot_count;
        touches_fit = all_below-all (disk_blocks disk) _ (λ b _. eq-eqb 0 _ (sym (ap one (xor_self (bit (durable disk) b)))));
        reserves_fit = none-fits (memory_with pending) refl;
        pending_fits = valid;
      }

  -- the stores of a recovery are due
  due-valid : (due : ℕ) → due ≡ log_length disk + 1 → 1 ≤ log_length disk → pending_valid (memory_with (Recovery 0 due)) (Recovery 0 due) ≡ true
  unfolding is_quiet all_slots
  due-valid due due_is logged =
      parts-recovery (memory_with (Recovery 0 due)) 0 due
      (record {
        quiet = words_same (durable disk);
        some_logged = omega arith;
        few_logged = omega (arith, parts.few_entries);
        not_ended = omega arith;
      })

  -- all of the log is still to be written
  due-matches : (due : ℕ) → due ≡ log_length disk + 1 → recovery_matches (disk_blocks disk) (durable disk) disk 0 due ≡ true
  unfolding durable
  due-matches due due_is =
      parts-matching (disk_blocks disk) (durable disk) disk 0 due
      (record {
        blocks_is = refl;
        due_is = sym due_is;
        log = log-valid disk parts.word_one_is parts.entries;
        agrees = durable-agrees disk opens;
        no_bits = parts.no_bits;
        rest = refl;
      })

  -- ---- just opened

  by-log-matches : (p : ℕ) → log_length disk ≡ p → disk_matches (memory_with (recovery_pending p)) disk (recovery_pending p) ≡ true
  unfolding recovery_pending recovery_due durable log_entries entries_in writes
  by-log-matches zero e =
      rest-matches (memory_with Nothing) disk
      ∙ quiet-matches disk (disk_blocks disk) (durable disk) (drop log_at disk) (durable-length disk opens)
      (disk-parts disk (omega (arith, parts.size))
      ∙ ap (λ (word : ℕ). disk_of (disk_blocks disk) word (disk_bitmap disk) (drop log_at disk)) (told_none (disk_blocks disk) (word_one disk) parts.word_one_is e)
      ∙ ap (λ (words : List ℕ). disk_of (disk_blocks disk) 0 words (drop log_at disk))
      (sym (ap (λ (p : ℕ). writes (entries_in p (drop log_at disk)) (disk_bitmap disk)) e)))
  by-log-matches (suc p) e =
      recovery-matches (memory_with (Recovery 0 (suc p + 1))) disk 0 (suc p + 1) ∙ due-matches (suc p + 1) (omega (arith, e))

  pub opened-matches : disk_matches (opened disk) disk (opened disk).pending ≡ true
  unfolding opened
  opened-matches = by-log-matches (log_length disk) refl

  by-log-valid : (p : ℕ) → log_length disk ≡ p → ValidParts (memory_with (recovery_pending p))
  unfolding recovery_pending recovery_due pending_valid
  by-log-valid zero e = quiet-valid Nothing refl
  by-log-valid (suc p) e =
      quiet-valid (Recovery 0 (suc p + 1)) (due-valid (suc p + 1) (omega (arith, e)) (omega (arith, e)))

  pub opened-valid : ValidParts (opened disk)
  unfolding opened
  opened-valid = by-log-valid (log_length disk) refl

-- the stores due that an open answers are the length of the recovery's store list
pub recovery-due : (disk : List ℕ) → open_error disk ≡ none → 1 ≤ log_length disk → recovery_due (log_length disk) ≡ length (checkpoint_stores (log_entries disk))
unfolding checkpoint_stores recovery_due
recovery-due disk opens logged = by_length (log_length disk) logged ∙ sym listed
  where
    by_length : (p : ℕ) → 1 ≤ p → recovery_due p ≡ p + 1
    by_length zero h = absurd (omega arith)
    by_length (suc p) h = refl

    listed : length (checkpoint_with closing_stores (log_entries disk)) ≡ log_length disk + 1
    listed = length-checkpoint_with closing_stores (log_entries disk) ∙ ap (λ (n : ℕ). n + 1) (entries-length disk opens)
