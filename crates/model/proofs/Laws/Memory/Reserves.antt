-- Laws of reservations: what they add up to when one of them changes.
use Prim.Native.Nat.{ℕ, zero, suc, ◌+◌, ◌-◌, ◌≤◌, ◌<◌}
use native.Mathlib.Nat.{le_refl, not-suc-le-zero, le_of_suc-le-suc}
use native.Mathlib.Omega.{arith}
use mathlib.Core.Path.{◌≡◌, refl}
use mathlib.Core.List.{List, [], ◌∷◌}
use lib.ListN.{length, get_or, set}
use Rattle.model.specs.Types.{Reserve, Memory}
use Rattle.model_types.specs.Memory.{no_reserve}
use Rattle.model.specs.Rules.Available.{available}
use Rattle.model.specs.Rules.Reserves.{total_reserved, others_reserved}

-- a grant of so many to slot s leaves what is reserved for the others
abbrev pub Spares : Memory → ℕ → ℕ → Type 0
Spares memory s count = others_reserved memory.reserves s ≤ length (available memory) - count

-- all together are that of slot s and the others'
pub total-split : (reserves : List Reserve) (s : ℕ) → total_reserved reserves ≡ (get_or reserves s no_reserve).reservation + others_reserved reserves s
unfolding total_reserved others_reserved
total-split [] s = refl
total-split (reserve ∷ reserves) zero = refl
total-split (reserve ∷ reserves) (suc s) = omega (arith, total-split reserves s)

-- with another one for slot s
pub total-set : (reserves : List Reserve) (s : ℕ) (reserve : Reserve) → s < length reserves
    → total_reserved (set reserves s reserve) ≡ reserve.reservation + others_reserved reserves s
unfolding total_reserved others_reserved
total-set [] s reserve h = absurd (not-suc-le-zero h)
total-set (x ∷ reserves) zero reserve h = refl
total-set (x ∷ reserves) (suc s) reserve h = omega (arith, total-set reserves s reserve (le_of_suc-le-suc h))

-- and no more than that, if there is such a slot or not
pub total-set-le : (reserves : List Reserve) (s : ℕ) (reserve : Reserve)
    → total_reserved (set reserves s reserve) ≤ reserve.reservation + others_reserved reserves s
unfolding total_reserved others_reserved
total-set-le [] s reserve = omega arith
total-set-le (x ∷ reserves) zero reserve = le_refl _
total-set-le (x ∷ reserves) (suc s) reserve = omega (arith, total-set-le reserves s reserve)

-- what slot s has drawn then is no more than that one says
pub drawn-set-le : (reserves : List Reserve) (s : ℕ) (reserve : Reserve) → (get_or (set reserves s reserve) s no_reserve).drawn ≤ reserve.drawn
drawn-set-le [] s reserve = omega arith
drawn-set-le (x ∷ reserves) zero reserve = le_refl _
drawn-set-le (x ∷ reserves) (suc s) reserve = drawn-set-le reserves s reserve

-- the others' don't change
pub others-set : (reserves : List Reserve) (s : ℕ) (reserve : Reserve) → others_reserved (set reserves s reserve) s ≡ others_reserved reserves s
unfolding others_reserved
others-set [] s reserve = refl
others-set (x ∷ reserves) zero reserve = refl
others-set (x ∷ reserves) (suc s) reserve = omega (arith, others-set reserves s reserve)
