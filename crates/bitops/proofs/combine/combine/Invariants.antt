-- The first k words are made, and the others are as they were.
use Rattle.std.proofs.Common.{◌≡◌, ℕ, ◌<◌, ◌≤◌, get_or}
use Rattle.bitops.proofs.combine.combine.Given as goal

abbrev pub invariant-loop-k : goal.invariant-loop-k
invariant-loop-k g l =
    ((j : ℕ) → j < l.k → goal.F-post g l.word (get_or l.fn.words j 0) (get_or l.a j 0) (get_or l.b j 0) (get_or l.words j 0))
    × ((j : ℕ) → l.k ≤ j → get_or l.words j 0 ≡ get_or l.fn.words j 0)
