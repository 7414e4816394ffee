-- Available blocks taken: document 01, "blocks with SAM 0 and COM 0 (grantable) get 1 in COM and TAM. Their numbers go to the first n
-- places of the lent list", "later places stay." Document 02, job 6: "in the order met". An extent's blocks (job 4) are taken so too.
use Rattle.std.specs.Prelude.{ℕ, ◌≤◌, ◌<◌, ◌≡◌, true, ◌||◌, List, ◌++◌, length, take, drop}
use Rattle.bitmap.specs.Sizes.{max_blocks}
use Rattle.bitmap.specs.Bits.{bit, bitmap_of, no_bits_from, IsBitmap}
use Rattle.bitmap.specs.Blocks.{available_blocks, member}
use Rattle.bitmap.specs.Round.{after_last}
use Rattle.available.specs.Available.{available_round}

-- three bitmaps of a volume of m blocks, a cursor in it, with enough available blocks, and a list with room for them
pub record CanTake (m cursor count : ℕ) (sam «com» tam list : List ℕ) : Type 0 where
  pub volume : m ≤ max_blocks
  pub inside : cursor < m
  pub is_sam : IsBitmap sam
  pub is_com : IsBitmap «com»
  pub is_tam : IsBitmap tam
  pub end_of_com : no_bits_from m «com» ≡ true
  pub end_of_tam : no_bits_from m tam ≡ true
  pub enough : count ≤ length (available_blocks m sam «com»)
  pub room : count ≤ length list

-- COM, TAM and the list before and after the blocks of a list, so many as counted, are taken
pub record Takes (m count : ℕ) (blocks com₀ tam₀ list₀ «com» tam list : List ℕ) : Type 0 where
  pub in_com : «com» ≡ bitmap_of m (λ b. member b blocks || bit com₀ b)
  pub in_tam : tam ≡ bitmap_of m (λ b. member b blocks || bit tam₀ b)
  pub listed : list ≡ blocks ++ drop count list₀

-- the first available blocks met from the cursor on, so many as counted
abbrev pub first_blocks : ℕ → ℕ → ℕ → List ℕ → List ℕ → List ℕ
first_blocks m cursor count sam «com» = take count (available_round m sam «com» cursor)

-- these are taken, and the cursor moves behind them
pub record TakesMet (m cursor count : ℕ) (sam com₀ tam₀ list₀ «com» tam list : List ℕ) (moved : ℕ) : Type 0 where
  pub takes : Takes m count (first_blocks m cursor count sam com₀) com₀ tam₀ list₀ «com» tam list
  pub moves : moved ≡ after_last m cursor (first_blocks m cursor count sam com₀)
