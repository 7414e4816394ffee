-- The next store of a recovery, on any disk that opens: a logged word, or at the end a closing store. What the disk stands for
-- stays, for all closing stores that leave bitmap and log alone; and the disk is as the memory and one more store leave it.
use Prim.Native.Nat.{ℕ, ◌+◌, ◌-◌, ◌*◌, ◌≤◌, ◌<◌}
use native.Mathlib.Omega.{arith}
use mathlib.Core.Path.{◌≡◌, refl, sym, ap, ap₂, ◌∙◌, subst}
use mathlib.Core.Bool.{true}
use mathlib.Core.Option.{none}
use mathlib.Core.List.{List, [], ◌++◌, map}
use lib.ListN.{length, take, drop, take-append-drop, length-map, length-drop, drop_of_length-le}
use lib.Seq.{drop-append-le, take-append-le, drop-append-add, drop-drop}
use Rattle.bitmap.specs.Sizes.{bitmap_words}
use Rattle.bitmap.specs.Bits.{no_bits_from}
use Rattle.model.specs.Rules.Sizes.{log_at, log_words}
use Rattle.model.specs.Rules.Stores.{Store, writes, on_disk, checkpoint_with, closing_stores}
use Rattle.model.specs.Rules.Disk.{disk_blocks, word_one, log_length, disk_bitmap, disk_of, entries_in, log_entries, entries_valid, entries_agree, durable, image_matches}
use Rattle.model.specs.Rules.Calls.Open.{open_error}
use Rattle.model.proofs.Laws.Disk.Writes.{writes-append, writes_again, length-writes}
use Rattle.model.proofs.Laws.Disk.Places.{places-take, places-drop}
use Rattle.model.proofs.Laws.Disk.StoreLists.{take-map, drop-map}
use Rattle.model.proofs.Laws.Disk.Entries.{valid-take, valid-drop, writes-no_bits-from, writes-agreeing}
use Rattle.model.proofs.Laws.Disk.Parts.{Opens, opens-parts, disk_of-bitmap, disk_of-entries, disk_of-durable, disk-parts, writes-on_disk, disk_of-opens, log-valid}
use Rattle.model.proofs.Laws.Disk.Closing.{Closing, closing-take, closing-drop, Closed, closed, closed-durable, closed-opens}
use Rattle.model.proofs.Laws.Disk.Matching.{RecoveryMatches, quiet-matches}
use Rattle.model.proofs.Laws.Disk.Durable.{bitmap-length, tail_length, entries-places, entries-length}

-- ---- the stores of a checkpoint, one by one

module _ (closing es : List Store) (k : ℕ) where
  -- a logged word
  next_word : k < length es → take 1 (drop k (checkpoint_with closing es)) ≡ map on_disk (take 1 (drop k es))
  unfolding checkpoint_with
  next_word h =
      ap (take 1)
      (drop-append-le k (map on_disk es) closing (omega (arith, length-map es on_disk))
      ∙ ap (λ (l : List Store). l ++ closing) (drop-map on_disk k es))
      ∙ take-append-le 1 (map on_disk (drop k es)) closing (omega (arith, length-map (drop k es) on_disk, length-drop k es))
      ∙ take-map on_disk 1 (drop k es)

  -- a closing store
  next-closing : length es ≤ k → take 1 (drop k (checkpoint_with closing es)) ≡ take 1 (drop (k - length es) closing)
  unfolding checkpoint_with
  next-closing h =
      let e : k ≡ length (map on_disk es) + (k - length es) = omega (arith, length-map es on_disk) in
      ap (take 1) (ap (λ (n : ℕ). drop n (map on_disk es ++ closing)) e ∙ drop-append-add (map on_disk es) closing (k - length es))

-- writing one entry again before all of them
entry-again : (k : ℕ) (es : List Store) (words : List ℕ) → writes es (writes (take 1 (drop k es)) words) ≡ writes es words
entry-again k es words =
    subst (λ (l : List Store). writes l (writes (take 1 (drop k es)) words) ≡ writes l words)
    (ap (λ (l : List Store). take k es ++ l) (take-append-drop 1 (drop k es)) ∙ take-append-drop k es)
    (writes_again (take k es) (take 1 (drop k es)) (drop 1 (drop k es)) words)

-- the disk after the next store of a checkpoint with k of them done
abbrev pub checkpoint_next : List Store → List ℕ → ℕ → List ℕ
checkpoint_next closing disk k = writes (take 1 (drop k (checkpoint_with closing (log_entries disk)))) disk

module _ (closing : List Store) (disk : List ℕ) (opens : open_error disk ≡ none) where
  parts : Opens disk
  parts = opens-parts disk opens

  abbrev words : List ℕ
  words = disk_bitmap disk

  abbrev tail : List ℕ
  tail = drop log_at disk

  size : length words ≡ bitmap_words
  size = bitmap-length disk opens

  whole : disk ≡ disk_of (disk_blocks disk) (word_one disk) words tail
  whole = disk-parts disk (omega (arith, parts.size))

  entries-there : entries_in (log_length disk) tail ≡ log_entries disk
  unfolding log_entries
  entries-there = refl

  valid-there : entries_valid (disk_blocks disk) 0 (entries_in (log_length disk) tail) ≡ true
  valid-there = ap (entries_valid (disk_blocks disk) 0) entries-there ∙ parts.entries

  -- ---- a logged word is written
  module _ (k : ℕ) (h : k < log_length disk) where
    abbrev one : List Store
    one = take 1 (drop k (log_entries disk))

    checkpointed : checkpoint_next closing disk k ≡ disk_of (disk_blocks disk) (word_one disk) (writes one words) tail
    checkpointed =
        ap₂ writes (next_word closing (log_entries disk) k (omega (arith, entries-length disk opens))) whole
        ∙ writes-on_disk (disk_blocks disk) (word_one disk) words tail size one
        (places-take bitmap_words 1 (drop k (log_entries disk)) (places-drop bitmap_words k (log_entries disk) (entries-places disk opens)))

    one_size : length (writes one words) ≡ bitmap_words
    one_size = length-writes one words ∙ size

    pub checkpointed-opens : open_error (checkpoint_next closing disk k) ≡ none
    checkpointed-opens =
        ap open_error checkpointed
        ∙ disk_of-opens (disk_blocks disk) (word_one disk) (writes one words) tail one_size (tail_length disk opens) parts.some_blocks parts.few_blocks
        (writes-no_bits-from (disk_blocks disk) 0 one words parts.no_bits
        (valid-take (disk_blocks disk) 0 1 (drop k (log_entries disk)) (valid-drop (disk_blocks disk) 0 k (log_entries disk) parts.entries)))
        parts.word_one_is
        valid-there

    pub checkpointed-durable : durable (checkpoint_next closing disk k) ≡ durable disk
    unfolding durable
    checkpointed-durable =
        ap durable checkpointed
        ∙ disk_of-durable (disk_blocks disk) (word_one disk) (writes one words) tail one_size
        ∙ ap (λ (es : List Store). writes es (writes one words)) entries-there
        ∙ entry-again k (log_entries disk) words

    -- the log stays
    pub checkpointed-entries : log_entries (checkpoint_next closing disk k) ≡ log_entries disk
    checkpointed-entries =
        ap log_entries checkpointed
        ∙ disk_of-entries (disk_blocks disk) (word_one disk) (writes one words) tail one_size
        ∙ entries-there

    -- the logged words still to be rewritten are one fewer
    one_fewer : writes (drop (k + 1) (log_entries disk)) (writes one words) ≡ writes (drop k (log_entries disk)) words
    one_fewer =
        ap (λ (es : List Store). writes es (writes one words)) (sym (drop-drop 1 k (log_entries disk)))
        ∙ sym (writes-append one (drop 1 (drop k (log_entries disk))) words)
        ∙ ap (λ (es : List Store). writes es words) (take-append-drop 1 (drop k (log_entries disk)))

    pub checkpointed-matches : (blocks : ℕ) (sam : List ℕ) (due : ℕ)
        → RecoveryMatches blocks sam disk k due → RecoveryMatches blocks sam (checkpoint_next closing disk k) (k + 1) due
    checkpointed-matches blocks sam due m =
        record {
          blocks_is = blocks_is;
          due_is = ap (λ (d : List ℕ). log_length d + 1) checkpointed ∙ m.due_is;
          log = log-valid (checkpoint_next closing disk k) after.word_one_is after.entries;
          agrees = ap (entries_agree sam) checkpointed-entries ∙ m.agrees;
          no_bits = ap (λ (n : ℕ). no_bits_from n (disk_bitmap (checkpoint_next closing disk k))) (sym blocks_is) ∙ after.no_bits;
          rest =
              ap₂ (λ (es : List Store) (w : List ℕ). writes (drop (k + 1) es) w) checkpointed-entries
              (ap (λ (d : List ℕ). disk_bitmap d) checkpointed ∙ disk_of-bitmap (disk_blocks disk) (word_one disk) (writes one words) tail one_size)
              ∙ one_fewer
              ∙ m.rest;
        }
      where
        after : Opens (checkpoint_next closing disk k)
        after = opens-parts (checkpoint_next closing disk k) checkpointed-opens

        blocks_is : disk_blocks (checkpoint_next closing disk k) ≡ blocks
        blocks_is = ap (λ (d : List ℕ). disk_blocks d) checkpointed ∙ m.blocks_is

  -- ---- a closing store is made

  -- every logged word has been rewritten: words 2 to 129 are SAM
  pub all-rewritten : (blocks : ℕ) (sam : List ℕ) (k due : ℕ) → log_length disk ≤ k → RecoveryMatches blocks sam disk k due → disk_bitmap disk ≡ sam
  unfolding writes
  all-rewritten blocks sam k due h m =
      ap (λ (es : List Store). writes es words)
      (sym (drop_of_length-le (log_entries disk) {i = k} (omega (arith, entries-length disk opens))))
      ∙ m.rest

  -- and that is what the disk stands for
  pub rewritten-durable : (blocks : ℕ) (sam : List ℕ) (k due : ℕ) → log_length disk ≤ k → RecoveryMatches blocks sam disk k due
      → durable disk ≡ disk_bitmap disk
  unfolding durable
  rewritten-durable blocks sam k due h m =
      let is-sam : disk_bitmap disk ≡ sam = all-rewritten blocks sam k due h m in
      ap (writes (log_entries disk)) is-sam ∙ writes-agreeing (log_entries disk) sam m.agrees ∙ sym is-sam

  module _ (k : ℕ) (h : log_length disk ≤ k) (c : Closing closing) where
    closed-next : Closed (disk_blocks disk) (word_one disk) words tail (checkpoint_next closing disk k)
    closed-next =
        rw (next-closing closing (log_entries disk) k (omega (arith, entries-length disk opens)))
        (subst (λ (d : List ℕ). Closed (disk_blocks disk) (word_one disk) words tail (writes next d)) (sym whole)
        (closed (disk_blocks disk) words size (word_one disk) tail next (closing-take 1 rest (closing-drop made closing c))))
      where
        -- the closing stores made before
        made : ℕ
        made = k - length (log_entries disk)

        rest : List Store
        rest = drop made closing

        next : List Store
        next = take 1 rest

    fits-log : 2 * log_length disk ≤ log_words
    fits-log = omega (arith, parts.few_entries, parts.few_blocks)

    pub closing-opens : open_error (checkpoint_next closing disk k) ≡ none
    closing-opens =
        closed-opens (disk_blocks disk) words size (word_one disk) tail fits-log (checkpoint_next closing disk k) closed-next (tail_length disk opens)
        parts.some_blocks parts.few_blocks parts.no_bits parts.word_one_is valid-there

    pub closing-durable : durable disk ≡ disk_bitmap disk → durable (checkpoint_next closing disk k) ≡ disk_bitmap disk
    unfolding durable log_entries
    closing-durable written =
        closed-durable (disk_blocks disk) words size (word_one disk) tail fits-log (checkpoint_next closing disk k) closed-next written

-- ---- a recovery's last store: word 1 becomes 0

pub cleared-matches : (disk : List ℕ) → open_error disk ≡ none → (blocks : ℕ) (sam : List ℕ) (k due : ℕ)
    → k ≡ log_length disk
    → RecoveryMatches blocks sam disk k due
    → image_matches blocks sam (checkpoint_next closing_stores disk k) 0 [] ≡ true
unfolding writes
cleared-matches disk opens blocks sam k due e m =
    ap₂ (λ (n : ℕ) (w : List ℕ). image_matches n w cleared 0 []) (sym m.blocks_is)
    (sym (all-rewritten closing_stores disk opens blocks sam k due (omega (arith, e)) m))
    ∙ quiet-matches cleared (disk_blocks disk) (disk_bitmap disk) (drop log_at disk) (bitmap-length disk opens) is-cleared
  where
    cleared : List ℕ
    cleared = checkpoint_next closing_stores disk k

    none_before : k - length (log_entries disk) ≡ 0
    none_before = omega (arith, e, entries-length disk opens)

    is-cleared : cleared ≡ disk_of (disk_blocks disk) 0 (disk_bitmap disk) (drop log_at disk)
    is-cleared =
        ap₂ writes
        (next-closing closing_stores (log_entries disk) k (omega (arith, e, entries-length disk opens))
        ∙ ap (λ (n : ℕ). take 1 (drop n closing_stores)) none_before)
        (disk-parts disk (omega (arith, (opens-parts disk opens).size)))
