-- The sizes that document 01 fixes, each named once.
use Rattle.std.specs.Prelude.{ℕ, ◌+◌, ◌/◌, ◌<◌, ◌≡◌, Bool, cond, ◌&&◌, leb, ltb}

-- the most blocks that a volume has
abbrev pub max_blocks : ℕ
max_blocks = 4096

-- the bits of a word
abbrev pub word_bits : ℕ
word_bits = 32

-- the words of a bitmap
abbrev pub bitmap_words : ℕ
bitmap_words = 128

-- the transaction slots: "one for each seat 0 to 7"
abbrev pub slot_count : ℕ
slot_count = 8

-- the most blocks that one allocate gives: "count outside 1 to 64"
abbrev pub max_count : ℕ
max_count = 64

-- "W = m divided by 32, rounded up."
abbrev pub words_for : ℕ → ℕ
words_for blocks = (blocks + 31) / 32

-- "m is in range", 1 to 4,096
unfoldable pub blocks_in_range : ℕ → Bool
blocks_in_range blocks = leb 1 blocks && leb blocks max_blocks

-- a count of 1 to 64
unfoldable pub count_in_range : ℕ → Bool
count_in_range count = leb 1 count && leb count max_count

-- a slot of 0 to 7
unfoldable pub slot_in_range : ℕ → Bool
slot_in_range s = ltb s slot_count

-- the slot to look at: this one, and 0 for a number that no slot has
unfoldable pub slot_index : ℕ → ℕ
slot_index s = cond (slot_in_range s) s 0

-- a number is the wanted slot's, and there is such a slot
pub record IsSlot (wanted index : ℕ) : Type 0 where
  pub is : index ≡ wanted
  pub below : index < slot_count
