-- The starts of extents as the bits of words.
use Rattle.std.specs.Prelude.{ℕ, ◌+◌, ◌*◌, ◌≤◌, ◌≡◌, Bool, false, ◌&&◌, List, get_or}
use Rattle.bitmap.specs.Sizes.{max_blocks, max_count, word_bits, bitmap_words}
use Rattle.bitmap.specs.Bits.{bit}
use Rattle.bitmap.specs.Blocks.{is_available}
use Rattle.bitmap.specs.Extents.{is_start}

-- a bitmap's words, and one more that stays 0
abbrev pub start_words : ℕ
start_words = bitmap_words + 1

-- words of zeros
abbrev pub AreZeros : List ℕ → Type 0
AreZeros words = (k : ℕ) → get_or words k 0 ≡ 0

-- words whose bits are the test's
abbrev pub HaveBits : (ℕ → Bool) → List ℕ → Type 0
HaveBits test words = (b : ℕ) → bit words b ≡ test b

-- words whose bits are the starts of extents of n available blocks in a volume of m
abbrev pub AreStarts : ℕ → List ℕ → List ℕ → ℕ → List ℕ → Type 0
AreStarts m sam «com» n words = HaveBits (is_start (is_available sam «com») m n) words

-- no bits from m on
abbrev pub NoneFrom : ℕ → List ℕ → Type 0
NoneFrom m words = (b : ℕ) → m ≤ b → bit words b ≡ false

-- what the code on these words asks for: a volume of m blocks and words of zeros; a count besides; words with no bits from some
-- word on, and a shift

pub record CanPut (m : ℕ) (words : List ℕ) : Type 0 where
  pub volume : m ≤ max_blocks
  pub zeros : AreZeros words

pub record CanFind (m count : ℕ) (words : List ℕ) : Type 0 where
  pub volume : m ≤ max_blocks
  pub some : 1 ≤ count
  pub few : count ≤ max_count
  pub zeros : AreZeros words

pub record CanNarrow (k shift : ℕ) (words : List ℕ) : Type 0 where
  pub within : k ≤ bitmap_words
  pub short : shift ≤ word_bits
  pub none : NoneFrom (word_bits * k) words

-- words in which a bit stays where the one so far above it is 1 too
abbrev pub Narrowed : ℕ → List ℕ → List ℕ → Type 0
Narrowed shift before after = HaveBits (λ b. bit before b && bit before (b + shift)) after
