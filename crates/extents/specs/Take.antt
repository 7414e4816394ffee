-- An extent that can be taken.
use Rattle.std.specs.Prelude.{ℕ, ◌+◌, ◌≤◌, ◌≡◌, true, List, length}
use Rattle.bitmap.specs.Sizes.{max_blocks}
use Rattle.bitmap.specs.Bits.{no_bits_from, IsBitmap}
use Rattle.bitmap.specs.Extents.{adjoining}
use Rattle.available.specs.Take.{Takes}

-- blocks that a bitmap has, and a list with room for them
pub record CanTake (start count : ℕ) (list : List ℕ) : Type 0 where
  pub within : start + count ≤ max_blocks
  pub room : count ≤ length list

-- two bitmaps of a volume of m blocks, and an extent that lies below m
pub record LiesIn (m start count : ℕ) («com» tam : List ℕ) : Type 0 where
  pub volume : m ≤ max_blocks
  pub is_com : IsBitmap «com»
  pub is_tam : IsBitmap tam
  pub end_of_com : no_bits_from m «com» ≡ true
  pub end_of_tam : no_bits_from m tam ≡ true
  pub within : start + count ≤ m

-- taken, in whatever volume it lies
abbrev pub TakesExtent : ℕ → ℕ → List ℕ → List ℕ → List ℕ → List ℕ → List ℕ → List ℕ → Type 0
TakesExtent start count com₀ tam₀ list₀ «com» tam list =
    (m : ℕ) → LiesIn m start count com₀ tam₀ → Takes m count (adjoining start count) com₀ tam₀ list₀ «com» tam list
