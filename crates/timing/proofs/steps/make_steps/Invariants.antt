-- The step is one that the script holds.
use Prim.Native.Nat.{◌<◌}
use Rattle.timing.specs.Script.{most_steps}
use Rattle.timing.proofs.steps.make_steps.Given as goal

abbrev pub invariant-loop : goal.invariant-loop
invariant-loop l = l.step < most_steps
