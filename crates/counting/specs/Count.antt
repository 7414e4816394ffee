-- Blocks counted: by their bits in two bitmaps, and the available ones from a word on.
use Rattle.std.specs.Prelude.{ℕ, ◌+◌, ◌*◌, ◌≡◌, Bool, List, [], ◌∷◌, length}
use Rattle.std.specs.Bool.{xor}
use Rattle.std.specs.Int.Count.{ones}
use Rattle.bitmap.specs.Sizes.{max_blocks, word_bits}
use Rattle.bitmap.specs.Bits.{bit}
use Rattle.bitmap.specs.Blocks.{from, allocated_blocks, allocating_blocks, freeing_blocks}
use Rattle.available.specs.Available.{available_from}
use Rattle.counting.specs.declared.Tally.{Tally}

-- how many blocks of two whole bitmaps are allocated, being allocated and being freed
pub record IsTally (sam «com» : List ℕ) (tally : Tally) : Type 0 where
  pub allocated : tally.allocated ≡ length (allocated_blocks max_blocks sam)
  pub allocating : tally.allocating ≡ length (allocating_blocks max_blocks sam «com»)
  pub freeing : tally.freeing ≡ length (freeing_blocks max_blocks sam «com»)

-- whether two bitmaps differ at a block
abbrev pub differing : List ℕ → List ℕ → ℕ → Bool
differing left right b = xor (bit left b) (bit right b)

-- at how many blocks two whole bitmaps differ
abbrev pub count_differing : List ℕ → List ℕ → ℕ
count_differing left right = length (from (differing left right) max_blocks 0)

-- how many available blocks there are from word k on
abbrev pub count_from : ℕ → List ℕ → List ℕ → ℕ → ℕ
count_from m sam «com» k = length (available_from m sam «com» (word_bits * k))

-- the ones of the words that g makes of the words of two lists, place by place
unfoldable pub ones_of : (ℕ → ℕ → ℕ) → List ℕ → List ℕ → ℕ
ones_of g [] ys = 0
ones_of g (x ∷ xs) [] = 0
ones_of g (x ∷ xs) (y ∷ ys) = ones (g x y) + ones_of g xs ys

-- a number is those of any g that tells what the relation does
abbrev pub CountsOnes : (ℕ → ℕ → ℕ → Type 0) → List ℕ → List ℕ → ℕ → Type 0
CountsOnes relates xs ys n =
    (g : ℕ → ℕ → ℕ) → ((x y w : ℕ) → relates x y w → w ≡ g x y) → n ≡ ones_of g xs ys
