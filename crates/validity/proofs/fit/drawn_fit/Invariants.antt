-- The slots passed have drawn no more than they took.
use Prim.Native.Nat.{ℕ, ◌<◌}
use mathlib.Core.Path.{◌≡◌}
use mathlib.Core.Bool.{true}
use Rattle.validity.specs.Fit.{drawn_fits_at}
use Rattle.validity.proofs.fit.drawn_fit.Given as goal

abbrev pub invariant-loop-s : goal.invariant-loop-s
invariant-loop-s l = (k : ℕ) → k < l.s → drawn_fits_at l.memory.sam.words l.memory.slots l.memory.reserves k ≡ true
