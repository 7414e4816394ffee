-- Reserves one after the other: what they add up to.
use Prim.Native.Nat.{ℕ, ◌+◌, ◌*◌, ◌^◌, ◌≤◌, ◌<◌}
use native.Mathlib.Numerals.{add-one}
use mathlib.Core.Path.{◌≡◌, ap}
use mathlib.Core.List.{List, [], ◌∷◌}
use lib.ListN.{length, get_or, drop, drop_of_length-le}
use lib.Seq.{drop-cons}
use Rattle.model_types.specs.declared.memory.Reserve.{Reserve}
use Rattle.model.specs.Rules.Reserves.{total_reserved}

-- with one more the rest is less by its reservation
pub total_step : (reserves : List Reserve) (s : ℕ) (d : Reserve) → s < length reserves
    → total_reserved (drop s reserves) ≡ (get_or reserves s d).reservation + total_reserved (drop (s + 1) reserves)
unfolding total_reserved
total_step reserves s d h = rw (add-one s) (ap total_reserved (drop-cons reserves s d h))

-- behind the last there is none
pub total_end : (reserves : List Reserve) (s : ℕ) → length reserves ≤ s → total_reserved (drop s reserves) ≡ 0
unfolding total_reserved
total_end reserves s h = ap total_reserved (drop_of_length-le reserves {i = s} h)
