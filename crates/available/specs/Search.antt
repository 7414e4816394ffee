-- A search upwards for a block in words that a function gives by their numbers.
use Rattle.std.specs.Prelude.{ℕ, ◌+◌, ◌*◌, ◌^◌, ◌≤◌, ◌<◌, ◌≡◌, Bool, false, get_or}
use Rattle.bitmap.specs.Sizes.{word_bits, words_for}
use Rattle.bitmap.specs.Bits.{is_set}
use Rattle.bitmap.specs.Blocks.{from}

-- a function gives each word of a volume of m blocks
abbrev pub GivesWords : (ℕ → Type 0) → ℕ → Type 0
GivesWords gives m = (k : ℕ) → k < words_for m → gives k

-- a word whose bits are a test's
pub record IsWord (test : ℕ → Bool) (k word : ℕ) : Type 0 where
  pub small : word < 2 ^ word_bits
  pub bits : (i : ℕ) → i < word_bits → is_set word i ≡ test (word_bits * k + i)

-- a number is the lowest block from p on at which a test holds, or m where there is none: any test that has these words in a volume
-- of m blocks, and holds nowhere from m on
abbrev pub FindsNext : (ℕ → ℕ → Type 0) → ℕ → ℕ → ℕ → Type 0
FindsNext gives m p found =
    (test : ℕ → Bool) → ((k word : ℕ) → k < words_for m → gives k word → IsWord test k word) → ((b : ℕ) → m ≤ b → test b ≡ false)
    → found ≡ get_or (from test m p) 0 m
