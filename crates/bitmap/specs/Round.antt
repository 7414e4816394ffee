-- Going round a volume. Document 02, job 6: "Allocate searches from the block after the last one granted, wraps round at m, and
-- lists blocks in the order met."
use Rattle.std.specs.Prelude.{ℕ, suc, Bool, cond, List, [], ◌∷◌, ◌++◌, eqb}
use Rattle.bitmap.specs.Blocks.{from}

-- the blocks of a volume of m at which the test holds, in the order met from block p on: up to m, and then from 0 up to p
unfoldable pub round_from : (ℕ → Bool) → ℕ → ℕ → List ℕ
round_from test m p = from test m p ++ from test p 0

-- the place m is block 0 again
unfoldable pub wrapped : ℕ → ℕ → ℕ
wrapped m p = cond (eqb p m) 0 p

-- the block after the last one of a list, 0 after m - 1; where the list has none, p
unfoldable pub after_last : ℕ → ℕ → List ℕ → ℕ
after_last m p [] = p
after_last m p (b ∷ blocks) = after_last m (wrapped m (suc b)) blocks
