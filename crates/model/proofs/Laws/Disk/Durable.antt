-- A disk that opens: its log has the entries that word 1 tells, and the bitmap that it stands for is one of its volume.
use mathlib.Core.Path.{◌≡◌, ◌∙◌}
use mathlib.Core.Bool.{true}
use mathlib.Core.Option.{none}
use mathlib.Core.List.{List}
use Prim.Native.Nat.{ℕ}
use native.Mathlib.Omega.{arith}
use lib.ListN.{length, drop}
use Rattle.bitmap.specs.Sizes.{bitmap_words}
use Rattle.bitmap.specs.Bits.{no_bits_from}
use Rattle.model.specs.Rules.Sizes.{log_at, tail_words}
use Rattle.model.specs.Rules.Disk.{disk_blocks, log_length, disk_bitmap, log_entries, durable, entries_agree}
use Rattle.model.specs.Rules.Calls.Open.{open_error}
use Rattle.model.proofs.Laws.Disk.Writes.{length-writes}
use Rattle.model.proofs.Laws.Disk.Places.{Places}
use Rattle.model.proofs.Laws.Disk.Entries.{valid-places, entries-agree, writes-no_bits}
use Rattle.model.proofs.Laws.Disk.Parts.{Opens, opens-parts, disk-bitmap-length, disk-tail-length, entries-count}

module _ (disk : List ℕ) (opens : open_error disk ≡ none) where
  parts : Opens disk
  parts = opens-parts disk opens

  pub bitmap-length : length (disk_bitmap disk) ≡ bitmap_words
  bitmap-length = disk-bitmap-length disk parts.size

  pub tail_length : length (drop log_at disk) ≡ tail_words
  tail_length = disk-tail-length disk parts.size

  pub entries-places : Places bitmap_words (log_entries disk)
  entries-places = valid-places (disk_blocks disk) 0 (log_entries disk) parts.entries parts.few_blocks

  pub entries-length : length (log_entries disk) ≡ log_length disk
  entries-length = entries-count disk parts.size (omega (arith, parts.few_entries, parts.few_blocks))

  pub durable-length : length (durable disk) ≡ bitmap_words
  unfolding durable
  durable-length = length-writes (log_entries disk) (disk_bitmap disk) ∙ bitmap-length

  pub durable-no_bits : no_bits_from (disk_blocks disk) (durable disk) ≡ true
  unfolding durable
  durable-no_bits = writes-no_bits (disk_blocks disk) (log_entries disk) (disk_bitmap disk) parts.no_bits parts.entries

  -- each logged place of it holds its entry's value
  pub durable-agrees : entries_agree (durable disk) (log_entries disk) ≡ true
  unfolding durable
  durable-agrees = entries-agree (disk_blocks disk) 0 (log_entries disk) (disk_bitmap disk) bitmap_words bitmap-length entries-places parts.entries
