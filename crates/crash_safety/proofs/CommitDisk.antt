-- The disk of a pending commit: what it stands for after each number of stores.
use Prim.Native.Nat.{ℕ, ◌+◌, ◌*◌, ◌≤◌, ◌<◌}
use mathlib.Core.Path.{◌≡◌, sym, ap, ◌∙◌}
use mathlib.Core.Bool.{true}
use mathlib.Core.Option.{none}
use mathlib.Core.List.{List}
use lib.ListN.{length, take, drop}
use Rattle.bitmap.specs.Bits.{IsBitmap}
use Rattle.model_types.specs.declared.memory.Memory.{Memory}
use Rattle.model.specs.Rules.Sizes.{disk_words, log_at}
use Rattle.model.specs.Rules.Stores.{Store, writes, commit_point, closing_stores, commit_stores}
use Rattle.model.specs.Rules.Commit.{committed_sam, entries_of, changed_of}
use Rattle.model.specs.Rules.Disk.{durable, base_image, image_matches}
use Rattle.model.specs.Rules.Calls.Open.{open_error}
use Rattle.model.proofs.Laws.Disk.Writes.{writes-changes, store-next-one}
use Rattle.model.proofs.Laws.Commit.Changes.{changes-valid, changes-count}
use Rattle.model.proofs.Laws.Disk.Parts.{disk-tail-length, point-told, point-valid}
use Rattle.model.proofs.Laws.Memory.Valid.{ValidParts}
use Rattle.model.proofs.Laws.Commit.Committed.{committed-bitmap, committed-below}
use Rattle.model.proofs.Laws.Disk.Closing.{closes}
use Rattle.model.proofs.Laws.Disk.Matching.{image-is}
use Rattle.model.proofs.Laws.Disk.CommitLog.{CommitFrom, changes-from, journal_disk, commit_disk, commit-journal, durable-before, durable-after, journal-opens}
use Rattle.crash_safety.proofs.Invariant.{Small}
use Rattle.crash_safety.proofs.Small.{writes-small, take-small, drop-small, commit-small, changes-small}

-- the disk after k stores of the commit of slot s, by the disk's own log words
abbrev pub disk_after : Memory → List ℕ → ℕ → ℕ → List ℕ
disk_after memory disk s k = commit_disk memory.blocks memory.sam.words (drop log_at disk) (entries_of memory s) k

module _ (memory : Memory) (disk : List ℕ) (s : ℕ) (parts : ValidParts memory) (sam : IsBitmap memory.sam.words)
    (size : length disk ≡ disk_words) where
  abbrev old : List ℕ
  old = memory.sam.words

  abbrev new : List ℕ
  new = (committed_sam memory s).words

  abbrev entries : List Store
  entries = entries_of memory s

  pub from : CommitFrom old (drop log_at disk) entries
  unfolding entries_of
  from = changes-from old new (drop log_at disk) sam.size (disk-tail-length disk size)

  as-journal : (k : ℕ) → disk_after memory disk s k ≡ journal_disk memory.blocks (commit_point entries) old (drop log_at disk) closing_stores entries k
  as-journal k = commit-journal memory.blocks old (drop log_at disk) entries from k

  -- an open finds it in order, wherever the power failed
  pub opens-after : (k : ℕ) → open_error (disk_after memory disk s k) ≡ none
  unfolding entries_of
  opens-after k =
      ap open_error (as-journal k)
      ∙ journal-opens memory.blocks (commit_point entries) old (drop log_at disk) closing_stores entries from (point-told entries) closes k
      parts.some_blocks parts.few_blocks parts.sam_below
      (changes-valid memory.blocks old new parts.sam_below (committed-below memory s))
      (point-valid memory.blocks entries (changes-count memory.blocks old new parts.sam_below (committed-below memory s)))

  pub written : writes entries old ≡ new
  unfolding entries_of
  written = writes-changes old new (sam.size ∙ sym (committed-bitmap memory s).size)

  -- before the commit point it stands for SAM
  pub stands-before : (k : ℕ) → k ≤ 2 * changed_of memory s → durable (disk_after memory disk s k) ≡ old
  unfolding changed_of
  stands-before k h =
      ap durable (as-journal k)
      ∙ durable-before memory.blocks (commit_point entries) old (drop log_at disk) closing_stores entries from k h

  -- from it on for what SAM becomes
  pub stands_after : (k : ℕ) → 2 * changed_of memory s < k → durable (disk_after memory disk s k) ≡ new
  unfolding changed_of
  stands_after k h =
      ap durable (as-journal k)
      ∙ durable-after memory.blocks (commit_point entries) old (drop log_at disk) closing_stores entries from (point-told entries) closes k h
      ∙ written

  -- the next store on a disk that is as k stores leave it
  pub next-disk : (k : ℕ)
      → image_matches memory.blocks memory.sam.words disk k (commit_stores entries) ≡ true
      → writes (take 1 (drop k (commit_stores entries))) disk ≡ disk_after memory disk s (k + 1)
  next-disk k e =
      ap (writes (take 1 (drop k (commit_stores entries)))) (image-is memory.blocks memory.sam.words disk k (commit_stores entries) e)
      ∙ store-next-one k (commit_stores entries) (base_image memory.blocks memory.sam.words disk)

  pub next_small : (k : ℕ) → Small disk → Small (writes (take 1 (drop k (commit_stores entries))) disk)
  unfolding entries_of
  next_small k small =
      writes-small (take 1 (drop k (commit_stores entries))) disk
      (take-small 1 (drop k (commit_stores entries))
      (drop-small k (commit_stores entries)
      (commit-small entries from.places from.few (changes-small 0 old new (committed-bitmap memory s).small))))
      small
