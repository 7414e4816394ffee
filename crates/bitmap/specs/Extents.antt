-- Extents: adjoining blocks, where they start, and of several starts the one nearest to a named block.
-- Document 02, job 4: "n adjoining grantable blocks (1 to 64) whose first block is nearest to a named block, the lower one at
-- equal distance."
use Rattle.std.specs.Prelude.{ℕ, zero, suc, ◌+◌, ◌-◌, min, Bool, cond, ◌&&◌, List, [], ◌∷◌, leb, ltb, eqb}
use Rattle.bitmap.specs.Blocks.{from, all_below}

-- the n blocks from b on, rising
unfoldable pub adjoining : ℕ → ℕ → List ℕ
adjoining b zero = []
adjoining b (suc n) = b ∷ adjoining (suc b) n

-- whether an extent of n blocks starts at b: they lie below m, and the test holds at each of them
unfoldable pub is_start : (ℕ → Bool) → ℕ → ℕ → ℕ → Bool
is_start test m n b = leb (b + n) m && all_below n (λ i. test (b + i))

-- all starts of such extents, rising
unfoldable pub starts : (ℕ → Bool) → ℕ → ℕ → List ℕ
starts test m n = from (is_start test m n) m 0

-- how far two blocks lie apart
unfoldable pub distance : ℕ → ℕ → ℕ
distance a b = (a - b) + (b - a)

-- of two blocks the one nearer to a named block, the lower one at equal distance
unfoldable pub nearer : ℕ → ℕ → ℕ → ℕ
nearer near a b =
    cond (eqb (distance near a) (distance near b))
    (min a b)
    (cond (ltb (distance near a) (distance near b)) a b)

-- of a block and those of a list
unfoldable pub nearest_of : ℕ → ℕ → List ℕ → ℕ
nearest_of near b [] = b
nearest_of near b (c ∷ blocks) = nearer near b (nearest_of near c blocks)

-- of the blocks of a list, or m where it has none
unfoldable pub nearest : ℕ → ℕ → List ℕ → ℕ
nearest near m [] = m
nearest near m (b ∷ blocks) = nearest_of near b blocks
