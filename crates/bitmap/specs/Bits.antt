-- The bits of a word and of a bitmap.
-- Document 01, "The maps": "A map is 128 words of 32 bits. Block b is bit b mod 32 (bit 0 the lowest) of word b div 32;
-- 1 means allocated. Bits from m on are 0."
use Rattle.std.specs.Prelude.{ℕ, zero, suc, ◌+◌, ◌-◌, ◌/◌, ◌%◌, ◌^◌, min, ◌<◌, ◌≡◌, Bool, true, cond, ◌&&◌, List, [], ◌∷◌, length, get_or, eqb, ltb}
use Rattle.bitmap.specs.Sizes.{bitmap_words, word_bits}

-- whether bit i of a word is 1
unfoldable pub is_set : ℕ → ℕ → Bool
is_set word i = eqb (word / 2 ^ i % 2) 1

-- whether block b's bit is 1: bit b mod 32 of word b div 32
unfoldable pub bit : List ℕ → ℕ → Bool
bit words b = is_set (get_or words (b / 32) 0) (b % 32)

-- the word whose bits 0 to n - 1 are those of f from block p on
unfoldable pub word_of : (ℕ → Bool) → ℕ → ℕ → ℕ
word_of f p zero = 0
word_of f p (suc n) = cond (f (p + n)) (2 ^ n) 0 + word_of f p n

-- k words from block p on, with the bits of f below m and 0 from m on
unfoldable pub words_of : (ℕ → Bool) → ℕ → ℕ → ℕ → List ℕ
words_of f m p zero = []
words_of f m p (suc k) = word_of f p (min 32 (m - p)) ∷ words_of f m (p + 32) k

-- the bitmap of m blocks whose bits are f's: "Bits from m on are 0"
unfoldable pub bitmap_of : ℕ → (ℕ → Bool) → List ℕ
bitmap_of m f = words_of f m 0 bitmap_words

-- no bits from m on. A word has none if it is below 2 ^ m; the next word's bits start 32 further on
unfoldable pub no_bits_from : ℕ → List ℕ → Bool
no_bits_from m [] = true
no_bits_from m (word ∷ words) = ltb word (2 ^ m) && no_bits_from (m - 32) words

-- words that a bitmap can have: 128 of 32 bits
pub record IsBitmap (words : List ℕ) : Type 0 where
  pub size : length words ≡ bitmap_words
  pub small : (k : ℕ) → get_or words k 0 < 2 ^ word_bits
