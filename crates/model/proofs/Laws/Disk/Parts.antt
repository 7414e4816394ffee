-- A disk by its four parts: what each part is, what stores do to it, and when it opens.
use Prim.Native.Nat.{ℕ, ◌≤◌}
use mathlib.Core.Path.{◌≡◌, refl, sym, ap, ap₂, ◌∙◌}
use mathlib.Core.Bool.{true, not}
use mathlib.Core.Option.{none}
use mathlib.Core.List.{List, [], ◌∷◌, ◌++◌, map}
use native.Mathlib.Omega.{arith}
use lib.ListN.{length, drop, length-append, length-drop, take-append-drop}
use lib.Seq.{take_at, drop_at, length-take-le}
use lib.Dec.{leb, eqb}
use borrow.Author.Tests.{leb-true, le-leb, eqb-true, eq-eqb, not-false}
use Rattle.bitmap.specs.Sizes.{max_blocks, bitmap_words, words_for, blocks_in_range}
use Rattle.bitmap.specs.Bits.{no_bits_from}
use Rattle.model.specs.Rules.Sizes.{disk_words, bitmap_at, log_at, tail_words}
use Rattle.model.specs.Rules.Stores.{Store, writes, on_disk, commit_point}
use Rattle.model.specs.Rules.Disk.{disk_blocks, word_one, length_in, log_length, disk_bitmap, disk_of, entries_in, log_entries, entries_valid, word_one_valid, log_valid, durable}
use Rattle.model.specs.Rules.Causes.{disk_length_wrong, disk_blocks_wrong, disk_bitmap_wrong, disk_log_wrong}
use Rattle.model.specs.Rules.Calls.Open.{open_error}
use Rattle.model.proofs.Laws.Calls.First.{first-none, none_first}
use Rattle.model.proofs.Laws.Disk.Writes.{and_both, and_first, and_second}
use Rattle.model.proofs.Laws.Disk.Entries.{length-entries_in}
use Rattle.model.proofs.Laws.Disk.Places.{Places, writes-shift, writes-append-left}

-- a disk that opens: none of the causes 2 to 5 holds
pub record Opens (disk : List ℕ) : Type 0 where
  pub size : length disk ≡ disk_words
  pub some_blocks : 1 ≤ disk_blocks disk
  pub few_blocks : disk_blocks disk ≤ max_blocks
  pub no_bits : no_bits_from (disk_blocks disk) (disk_bitmap disk) ≡ true
  pub few_entries : log_length disk ≤ words_for (disk_blocks disk)
  pub word_one_is : word_one_valid (disk_blocks disk) (word_one disk) ≡ true
  pub entries : entries_valid (disk_blocks disk) 0 (log_entries disk) ≡ true

pub blocks-in_range : (blocks : ℕ) → 1 ≤ blocks → blocks ≤ max_blocks → blocks_in_range blocks ≡ true
unfolding blocks_in_range
blocks-in_range blocks h k = and_both (le-leb 1 blocks h) (le-leb blocks max_blocks k)

pub in_range-low : (blocks : ℕ) → blocks_in_range blocks ≡ true → 1 ≤ blocks
unfolding blocks_in_range
in_range-low blocks p = leb-true 1 blocks (and_first (leb 1 blocks) (leb blocks max_blocks) p)

pub in_range-high : (blocks : ℕ) → blocks_in_range blocks ≡ true → blocks ≤ max_blocks
unfolding blocks_in_range
in_range-high blocks p = leb-true blocks max_blocks (and_second (leb 1 blocks) (leb blocks max_blocks) p)

-- what cause 5 asks of word 1
pub word-few : (blocks word : ℕ) → word_one_valid blocks word ≡ true → length_in word ≤ words_for blocks
unfolding word_one_valid
word-few blocks word e = leb-true (length_in word) (words_for blocks) e

pub log-valid : (disk : List ℕ) → word_one_valid (disk_blocks disk) (word_one disk) ≡ true → entries_valid (disk_blocks disk) 0 (log_entries disk) ≡ true → log_valid disk ≡ true
unfolding log_valid
log-valid disk h p = and_both h p

pub valid-word-one : (disk : List ℕ) → log_valid disk ≡ true → word_one_valid (disk_blocks disk) (word_one disk) ≡ true
unfolding log_valid
valid-word-one disk p = and_first (word_one_valid (disk_blocks disk) (word_one disk)) (entries_valid (disk_blocks disk) 0 (log_entries disk)) p

pub valid-log-length : (disk : List ℕ) → log_valid disk ≡ true → log_length disk ≤ words_for (disk_blocks disk)
valid-log-length disk p = word-few (disk_blocks disk) (word_one disk) (valid-word-one disk p)

pub valid-log-entries : (disk : List ℕ) → log_valid disk ≡ true → entries_valid (disk_blocks disk) 0 (log_entries disk) ≡ true
unfolding log_valid
valid-log-entries disk p = and_second (word_one_valid (disk_blocks disk) (word_one disk)) (entries_valid (disk_blocks disk) 0 (log_entries disk)) p

pub opens-parts : (disk : List ℕ) → open_error disk ≡ none → Opens disk
unfolding open_error disk_length_wrong disk_blocks_wrong disk_bitmap_wrong disk_log_wrong
opens-parts disk p =
    let c2 = first-none _ p in
    let c3 = c2.1 in
    let c4 = c3.1 in
    let c5 = c4.1 in
    let range : blocks_in_range (disk_blocks disk) ≡ true = not-false (blocks_in_range (disk_blocks disk)) c3.0 in
    let log : log_valid disk ≡ true = not-false (log_valid disk) c5.0 in
    record {
      size = eqb-true (length disk) disk_words (not-false (eqb (length disk) disk_words) c2.0);
      some_blocks = in_range-low (disk_blocks disk) range;
      few_blocks = in_range-high (disk_blocks disk) range;
      no_bits = not-false (no_bits_from (disk_blocks disk) (disk_bitmap disk)) c4.0;
      few_entries = valid-log-length disk log;
      word_one_is = valid-word-one disk log;
      entries = valid-log-entries disk log;
    }

pub parts-open : (disk : List ℕ) → Opens disk → open_error disk ≡ none
unfolding open_error disk_length_wrong disk_blocks_wrong disk_bitmap_wrong disk_log_wrong
parts-open disk o =
    none_first
    _ (
      ap not (eq-eqb (length disk) disk_words o.size),
      (
        ap not (blocks-in_range (disk_blocks disk) o.some_blocks o.few_blocks),
        (
          ap not o.no_bits,
          (ap not (log-valid disk o.word_one_is o.entries), tt),
        ),
      ),
    )

-- word 1 at 0 tells a log of no entries, and a commit point all of them
pub none_told : length_in 0 ≡ 0
unfolding length_in
none_told = refl

-- and at no other number that cause 5 passes it tells that
pub told_none : (blocks word : ℕ) → word_one_valid blocks word ≡ true → length_in word ≡ 0 → word ≡ 0
unfolding length_in
told_none blocks word v e = e

pub point-told : (es : List Store) → length_in (commit_point es) ≡ length es
unfolding length_in
point-told es = refl

-- cause 5 passes word 1 at 0, and at a commit point of at most W entries
pub zero-valid : (blocks : ℕ) → word_one_valid blocks 0 ≡ true
unfolding word_one_valid
zero-valid blocks = le-leb (length_in 0) (words_for blocks) (omega (arith, none_told))

pub point-valid : (blocks : ℕ) (es : List Store) → length es ≤ words_for blocks → word_one_valid blocks (commit_point es) ≡ true
unfolding word_one_valid
point-valid blocks es few = le-leb (length_in (commit_point es)) (words_for blocks) (omega (arith, point-told es))

-- the parts of a disk that is given by its parts

module _ (blocks word : ℕ) (words tail : List ℕ) (size : length words ≡ bitmap_words) where
  pub disk_of-bitmap : disk_bitmap (disk_of blocks word words tail) ≡ words
  disk_of-bitmap = take_at words tail bitmap_words size

  pub disk_of-tail : drop log_at (disk_of blocks word words tail) ≡ tail
  disk_of-tail = drop_at words tail bitmap_words size

  pub disk_of-entries : log_entries (disk_of blocks word words tail) ≡ entries_in (length_in word) tail
  unfolding log_entries
  disk_of-entries = ap (entries_in (length_in word)) disk_of-tail

  pub disk_of-durable : durable (disk_of blocks word words tail) ≡ writes (entries_in (length_in word) tail) words
  unfolding durable
  disk_of-durable = ap₂ writes disk_of-entries disk_of-bitmap

  -- word 1 is 0
  pub disk_of-quiet : length_in word ≡ 0 → durable (disk_of blocks word words tail) ≡ words
  unfolding entries_in writes
  disk_of-quiet e = disk_of-durable ∙ ap (λ (n : ℕ). writes (entries_in n tail) words) e

  pub disk_of-length : length tail ≡ tail_words → length (disk_of blocks word words tail) ≡ disk_words
  disk_of-length m = omega (arith, length-append words tail)

-- a disk is its parts
pub disk-parts : (disk : List ℕ) → 2 ≤ length disk → disk ≡ disk_of (disk_blocks disk) (word_one disk) (disk_bitmap disk) (drop log_at disk)
disk-parts [] h = absurd (omega arith)
disk-parts (x ∷ []) h = absurd (omega arith)
disk-parts (x ∷ y ∷ disk) h = ap {B = List ℕ} (λ r. x ∷ y ∷ r) (sym (take-append-drop bitmap_words disk))

pub disk-bitmap-length : (disk : List ℕ) → length disk ≡ disk_words → length (disk_bitmap disk) ≡ bitmap_words
disk-bitmap-length disk l = length-take-le bitmap_words (drop bitmap_at disk) (omega (arith, length-drop bitmap_at disk))

pub disk-tail-length : (disk : List ℕ) → length disk ≡ disk_words → length (drop log_at disk) ≡ tail_words
disk-tail-length disk l = omega (arith, length-drop log_at disk)

-- the log has as many entries as word 1 tells
pub entries-count : (disk : List ℕ) → length disk ≡ disk_words → log_length disk ≤ bitmap_words → length (log_entries disk) ≡ log_length disk
unfolding log_entries
entries-count disk l few = length-entries_in (log_length disk) (drop log_at disk) (omega (arith, disk-tail-length disk l))

module _ (blocks word : ℕ) (words tail : List ℕ) (size : length words ≡ bitmap_words) where
  -- bitmap words stored on a disk
  pub writes-on_disk : (es : List Store)
      → Places bitmap_words es → writes (map on_disk es) (disk_of blocks word words tail) ≡ disk_of blocks word (writes es words) tail
  writes-on_disk es places =
      writes-shift (blocks ∷ word ∷ []) bitmap_at es (words ++ tail) refl
      ∙ ap {B = List ℕ} (λ r. blocks ∷ word ∷ r) (writes-append-left bitmap_words es words tail size places)

  -- when a disk that is given by its parts opens
  pub disk_of-opens : length tail ≡ tail_words
      → 1 ≤ blocks
      → blocks ≤ max_blocks
      → no_bits_from blocks words ≡ true
      → word_one_valid blocks word ≡ true
      → entries_valid blocks 0 (entries_in (length_in word) tail) ≡ true
      → open_error (disk_of blocks word words tail) ≡ none
  disk_of-opens m some_blocks few_blocks no_bits word_one_is valid =
      parts-open
      (disk_of blocks word words tail)
      (record {
        size = disk_of-length blocks word words tail size m;
        some_blocks = some_blocks;
        few_blocks = few_blocks;
        no_bits = rw (disk_of-bitmap blocks word words tail size) no_bits;
        few_entries = word-few blocks word word_one_is;
        word_one_is = word_one_is;
        entries = rw (disk_of-entries blocks word words tail size) valid;
      })

-- word 1 at 0
pub quiet-opens : (blocks : ℕ) (words tail : List ℕ) → length words ≡ bitmap_words
    → length tail ≡ tail_words
    → 1 ≤ blocks
    → blocks ≤ max_blocks
    → no_bits_from blocks words ≡ true
    → open_error (disk_of blocks 0 words tail) ≡ none
unfolding entries_in entries_valid
quiet-opens blocks words tail size m some_blocks few_blocks no_bits =
    disk_of-opens blocks 0 words tail size m some_blocks few_blocks no_bits (zero-valid blocks)
    (ap (λ (n : ℕ). entries_valid blocks 0 (entries_in n tail)) none_told)
