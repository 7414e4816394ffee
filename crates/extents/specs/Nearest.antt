-- The starts on both sides of a block.
use Rattle.std.specs.Prelude.{ℕ, zero, suc, ◌≤◌, ◌<◌, cond, ltb, Option, Some, None, List, get_or}
use Rattle.bitmap.specs.Sizes.{max_blocks, max_count}
use Rattle.bitmap.specs.Bits.{bit}
use Rattle.bitmap.specs.Blocks.{from}
use Rattle.extents.specs.Starts.{NoneFrom}

-- the lowest from p on, or m where there is none
unfoldable pub next_start : ℕ → List ℕ → ℕ → ℕ
next_start m words p = get_or (from (bit words) m p) 0 m

-- the block after the highest below p, or 0 where there is none
unfoldable pub end_before : List ℕ → ℕ → ℕ
end_before words zero = 0
end_before words (suc p) = cond (bit words p) (suc p) (end_before words p)

-- the starts of a volume of m blocks
pub record CanLook (m : ℕ) (words : List ℕ) : Type 0 where
  pub volume : m ≤ max_blocks
  pub none : NoneFrom m words

-- a volume of m blocks, a count, and a block of it
pub record CanSearch (m count near : ℕ) : Type 0 where
  pub volume : m ≤ max_blocks
  pub some : 1 ≤ count
  pub few : count ≤ max_count
  pub inside : near < m

-- a block below m, if the number found is one
abbrev pub if_below : ℕ → ℕ → Option ℕ
if_below m found = cond (ltb found m) (Some found) None
