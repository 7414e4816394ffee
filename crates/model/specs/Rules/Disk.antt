-- The disk (document 01: the medium): its layout, its log, replay, and what a memory and its stores done leave of it.
use Rattle.std.specs.Prelude.{ℕ, zero, suc, ◌+◌, ◌-◌, ◌*◌, ◌^◌, Bool, true, ◌&&◌, List, [], ◌∷◌, ◌++◌, get_or, take, drop, leb, ltb, eqb}
use Rattle.bitmap.specs.Sizes.{bitmap_words, words_for}
use Rattle.bitmap.specs.Bits.{no_bits_from}
use Rattle.model.specs.Types.{Pending, Nothing, Commit, Recovery, Memory}
use Rattle.model.specs.Rules.Sizes.{blocks_at, length_at, bitmap_at, log_at}
use Rattle.model.specs.Rules.Stores.{Store, writes, after, changes, commit_stores, checkpoint_stores, ◌≔◌}
use Rattle.model.specs.Rules.Pending.{stores_done, new_sam}
use Rattle.model.specs.Rules.Valid.{same_words}

-- word 0
abbrev pub disk_blocks : List ℕ → ℕ
disk_blocks disk = get_or disk blocks_at 0

-- word 1
abbrev pub word_one : List ℕ → ℕ
word_one disk = get_or disk length_at 0

-- the log length that word 1 tells
unfoldable pub length_in : ℕ → ℕ
length_in word = word

-- the log length p of a disk
abbrev pub log_length : List ℕ → ℕ
log_length disk = length_in (word_one disk)

-- words 2 to 129
abbrev pub disk_bitmap : List ℕ → List ℕ
disk_bitmap disk = take bitmap_words (drop bitmap_at disk)

-- a disk's words from its four parts: word 0, word 1, words 2 to 129, and the log with all that follows
abbrev pub disk_of : ℕ → ℕ → List ℕ → List ℕ → List ℕ
disk_of blocks word words tail = blocks ∷ word ∷ (words ++ tail)

-- the first n entries of a log
unfoldable pub entries_in : ℕ → List ℕ → List Store
entries_in zero words = []
entries_in (suc n) [] = []
entries_in (suc n) (number ∷ []) = []
entries_in (suc n) (number ∷ contents ∷ words) = number ≔ contents ∷ entries_in n words

-- the p entries of a disk's log. "Log words beyond the p entries mean nothing."
unfoldable pub log_entries : List ℕ → List Store
log_entries disk = entries_in (log_length disk) (drop log_at disk)

-- entries that may follow in a log of m blocks: numbers from low on and below W, strictly rising, no bits from m on
unfoldable pub entries_valid : ℕ → ℕ → List Store → Bool
entries_valid blocks low [] = true
entries_valid blocks low (entry ∷ entries) =
    leb low entry.place
    && ltb entry.place (words_for blocks)
    && ltb entry.value (2 ^ (blocks - 32 * entry.place))
    && entries_valid blocks (suc entry.place) entries

-- what cause 5 asks of word 1 on a disk of m blocks: p isn't above W
unfoldable pub word_one_valid : ℕ → ℕ → Bool
word_one_valid blocks word = leb (length_in word) (words_for blocks)

-- cause 5 doesn't hold: word 1 as above, the entries' numbers below W and strictly rising, no bit from m on
unfoldable pub log_valid : List ℕ → Bool
log_valid disk = word_one_valid (disk_blocks disk) (word_one disk) && entries_valid (disk_blocks disk) 0 (log_entries disk)

-- the bitmap that a disk stands for: words 2 to 129 with the logged words written over them
unfoldable pub durable : List ℕ → List ℕ
durable disk = writes (log_entries disk) (disk_bitmap disk)

-- the stores of pending work, by parts of a memory: SAM, and the SAM that a pending commit makes
unfoldable pub stores_of : List ℕ → List ℕ → List ℕ → Pending → List Store
stores_of sam new disk Nothing = []
stores_of sam new disk (Commit s done due) = commit_stores (changes sam new)
stores_of sam new disk (Recovery done due) = checkpoint_stores (log_entries disk)

-- the disk after the next of them
unfoldable pub next_disk : List ℕ → List ℕ → List ℕ → Pending → List ℕ
next_disk sam new disk pending = writes (take 1 (drop (stores_done pending) (stores_of sam new disk pending))) disk

-- the stores of this memory's pending work
unfoldable pub due_stores : Memory → List ℕ → Pending → List Store
due_stores memory disk pending = stores_of memory.sam.words (new_sam memory pending) disk pending

-- whether the entries of a log agree with a bitmap
unfoldable pub entries_agree : List ℕ → List Store → Bool
entries_agree words [] = true
entries_agree words (entry ∷ entries) = eqb (get_or words entry.place 0) entry.value && entries_agree words entries

-- the disk before the stores of a work, by its own words from the log on: those written since are written by the stores done
abbrev pub base_image : ℕ → List ℕ → List ℕ → List ℕ
base_image blocks sam disk = disk_of blocks 0 sam (drop log_at disk)

-- "words 0 to 129 and the log words written": the work's stores done, made on m, 0, SAM and the disk's own words from the log on,
-- give the disk itself
unfoldable pub image_matches : ℕ → List ℕ → List ℕ → ℕ → List Store → Bool
image_matches blocks sam disk done stores = same_words disk (after done stores (base_image blocks sam disk))

-- "in recovery all p entries must pass cause 5 and agree with SAM, and logged map words still to be rewritten may hold any
-- bits below m": with those words written, words 2 to 129 are SAM
unfoldable pub recovery_matches : ℕ → List ℕ → List ℕ → ℕ → ℕ → Bool
recovery_matches blocks sam disk done due =
    eqb (disk_blocks disk) blocks
    && eqb (log_length disk + 1) due
    && log_valid disk
    && entries_agree sam (log_entries disk)
    && no_bits_from blocks (disk_bitmap disk)
    && same_words (writes (drop done (log_entries disk)) (disk_bitmap disk)) sam

-- whether a disk is as these stores of the work, done so far, leave it: by their image, but in recovery by the log
unfoldable pub stores_match : ℕ → List ℕ → List ℕ → List Store → Pending → Bool
stores_match blocks sam disk stores Nothing = image_matches blocks sam disk 0 stores
stores_match blocks sam disk stores (Commit s done due) = image_matches blocks sam disk done stores
stores_match blocks sam disk stores (Recovery done due) = recovery_matches blocks sam disk done due

-- cause 6 doesn't hold, by parts of a memory: its block count, SAM, and the SAM that a pending commit makes
unfoldable pub parts_match : ℕ → List ℕ → List ℕ → List ℕ → Pending → Bool
parts_match blocks sam new disk pending = stores_match blocks sam disk (stores_of sam new disk pending) pending

-- cause 6 doesn't hold: "words 0 to 129 and the log words written" are "as this memory and its stores done leave them"
unfoldable pub disk_matches : Memory → List ℕ → Pending → Bool
disk_matches memory disk pending = parts_match memory.blocks memory.sam.words (new_sam memory pending) disk pending
