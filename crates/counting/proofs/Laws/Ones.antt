-- The ones of words made of the words of two lists.
use Prim.Native.Nat.{ℕ, suc, ◌+◌, ◌<◌}
use native.Mathlib.Nat.{add-zero}
use native.Mathlib.Omega.{arith}
use mathlib.Core.Path.{◌≡◌}
use mathlib.Core.List.{List, [], ◌∷◌}
use lib.ListN.{length, get_or}
use lib.Count.{ones}
use Rattle.counting.specs.Count.{ones_of}

-- one word of each more
pub ones_step : (g : ℕ → ℕ → ℕ) (x y : ℕ) (xs ys : List ℕ) → ones_of g (x ∷ xs) (y ∷ ys) ≡ ones (g x y) + ones_of g xs ys
unfolding ones_of
ones_step g x y xs ys = omega arith

-- none where one of the two has no words
pub ones_none : (g : ℕ → ℕ → ℕ) (xs ys : List ℕ) → length xs ≡ 0 → ones_of g xs ys ≡ 0
unfolding ones_of
ones_none g [] ys h = omega arith
ones_none g (x ∷ xs) ys h = absurd (omega arith)

pub ones_none_right : (g : ℕ → ℕ → ℕ) (xs ys : List ℕ) → length ys ≡ 0 → ones_of g xs ys ≡ 0
unfolding ones_of
ones_none_right g [] ys h = omega arith
ones_none_right g (x ∷ xs) [] h = omega arith
ones_none_right g (x ∷ xs) (y ∷ ys) h = absurd (omega arith)

-- where each word's ones are what is left from it on, less what is left from the next on, they are what is left
pub ones_left : (g : ℕ → ℕ → ℕ) (left : ℕ → ℕ) (k : ℕ) (xs ys : List ℕ) → length ys ≡ length xs
    → ((j : ℕ) → j < length xs → ones (g (get_or xs j 0) (get_or ys j 0)) + left (k + j + 1) ≡ left (k + j))
    → ones_of g xs ys + left (k + length xs) ≡ left k
unfolding ones_of
ones_left g left k [] ys e h = rw (add-zero k) (omega arith)
ones_left g left k (x ∷ xs) [] e h = absurd (omega arith)
ones_left g left k (x ∷ xs) (y ∷ ys) e h =
    let first = rw (add-zero k) at (h 0 (omega arith)) in
    let rest : ones_of g xs ys + left (k + 1 + length xs) ≡ left (k + 1) =
    ones_left g left (k + 1) xs ys (omega arith)
    (λ j l.
    let next : k + 1 + j ≡ k + suc j = omega arith in
    rw next (h (suc j) (omega arith))) in
    let end : k + suc (length xs) ≡ k + 1 + length xs = omega arith in
    rw end (omega (arith, first, rest))
