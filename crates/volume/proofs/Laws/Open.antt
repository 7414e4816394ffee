-- Open: its causes in turn, and its pending work.
use Prim.Native.Nat.{ℕ, zero, suc, ◌+◌, ◌≤◌}
use native.Mathlib.Omega.{arith}
use mathlib.Core.Path.{◌≡◌, refl, sym, ap}
use mathlib.Core.Bool.{true, false}
use mathlib.Core.Option.{none, some}
use mathlib.Core.List.{List}
use lib.ListN.{length}
use borrow.Author.Tests.{eq-eqb, ne_eqb}
use Rattle.bitmap.specs.Bits.{no_bits_from}
use Rattle.model_types.specs.declared.error.Error.TheVariants.{DiskLength, DiskBlocks, DiskBitmap, DiskLog}
use Rattle.model_types.specs.declared.memory.Pending.TheVariants.{Nothing, Recovery}
use Rattle.model.specs.Rules.First.{first, first_or}
use Rattle.bitmap.specs.Sizes.{blocks_in_range}
use Rattle.model.specs.Rules.Disk.{disk_blocks, log_length, disk_bitmap, log_valid}
use Rattle.model.proofs.Laws.Disk.Parts.{opens-parts, log-valid}
use Rattle.model.specs.Rules.Causes.{disk_length_wrong, disk_blocks_wrong, disk_bitmap_wrong, disk_log_wrong}
use Rattle.model.specs.Rules.Calls.Open.{open_error, recovery_due, recovery_pending}

-- the stores due for so many entries
pub none-due : (p : ℕ) → p ≡ 0 → 0 ≡ recovery_due p
unfolding recovery_due
none-due p e = ap recovery_due (sym e)

pub some-due : (p : ℕ) → (p ≡ 0 → ⊥) → p + 1 ≡ recovery_due p
unfolding recovery_due
some-due zero n = absurd (n refl)
some-due (suc p) n = refl

-- and the work
pub nothing-logged : (p : ℕ) → p ≡ 0 → Nothing ≡ recovery_pending p
unfolding recovery_pending
nothing-logged p e = ap recovery_pending (sym e)

pub some_logged : {n : ℕ} (p : ℕ) → (p ≡ 0 → ⊥) → n ≡ recovery_due p → Recovery 0 n ≡ recovery_pending p
unfolding recovery_pending
some_logged zero n e = absurd (n refl)
some_logged (suc p) n e = ap (Recovery 0) e

module _ (disk : List ℕ) where
  pub wrong-length : (length disk ≡ 386 → ⊥) → open_error disk ≡ some DiskLength
  unfolding open_error first first_or disk_length_wrong
  wrong-length n = rw (ne_eqb (length disk) 386 n)

  pub out_of_range : length disk ≡ 386 → blocks_in_range (disk_blocks disk) ≡ false → open_error disk ≡ some DiskBlocks
  unfolding open_error first first_or disk_length_wrong disk_blocks_wrong
  out_of_range l r = rw (eq-eqb (length disk) 386 l, r)

  module _ (l : length disk ≡ 386) (r : blocks_in_range (disk_blocks disk) ≡ true) where
    pub stray-bits : no_bits_from (disk_blocks disk) (disk_bitmap disk) ≡ false → open_error disk ≡ some DiskBitmap
    unfolding open_error first first_or disk_length_wrong disk_blocks_wrong disk_bitmap_wrong
    stray-bits e = rw (eq-eqb (length disk) 386 l, r, e)

    pub bad-log : no_bits_from (disk_blocks disk) (disk_bitmap disk) ≡ true → log_valid disk ≡ false → open_error disk ≡ some DiskLog
    unfolding open_error first first_or disk_length_wrong disk_blocks_wrong disk_bitmap_wrong disk_log_wrong
    bad-log e f = rw (eq-eqb (length disk) 386 l, r, e, f)

    pub none-holds : no_bits_from (disk_blocks disk) (disk_bitmap disk) ≡ true → log_valid disk ≡ true → open_error disk ≡ none
    unfolding open_error first first_or disk_length_wrong disk_blocks_wrong disk_bitmap_wrong disk_log_wrong
    none-holds e f = rw (eq-eqb (length disk) 386 l, r, e, f)

  -- a disk that opens: its log
  module _ (opens : open_error disk ≡ none) where
    pub log-there : log_valid disk ≡ true
    log-there = log-valid disk (opens-parts disk opens).word_one_is (opens-parts disk opens).entries

    pub few_logged : log_length disk ≤ 128
    few_logged = omega (arith, (opens-parts disk opens).few_entries, (opens-parts disk opens).few_blocks)
