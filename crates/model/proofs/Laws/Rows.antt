-- Tables of numbers, compared by a test that computes.
use Prim.Native.Nat.{ℕ}
use mathlib.Core.Path.{◌≡◌, refl, ap₂}
use mathlib.Core.Bool.{Bool, true, false, ◌&&◌, false≢true}
use mathlib.Core.List.{List, [], ◌∷◌}
use Rattle.model.specs.Rules.Valid.{same_words}
use Rattle.model.proofs.Laws.Disk.Writes.{and_first, and_second, same-words}

-- whether two tables are the same, row by row
unfoldable pub same_rows : List (List ℕ) → List (List ℕ) → Bool
same_rows [] [] = true
same_rows [] (row ∷ rows) = false
same_rows (row ∷ rows) [] = false
same_rows (row ∷ rows) (other ∷ others) = same_words row other && same_rows rows others

pub rows_same : (rows others : List (List ℕ)) → same_rows rows others ≡ true → rows ≡ others
unfolding same_rows
rows_same [] [] e = refl
rows_same [] (other ∷ others) e = absurd (false≢true e)
rows_same (row ∷ rows) [] e = absurd (false≢true e)
rows_same (row ∷ rows) (other ∷ others) e =
    ap₂ ◌∷◌
    (same-words row other (and_first (same_words row other) (same_rows rows others) e))
    (rows_same rows others (and_second (same_words row other) (same_rows rows others) e))
