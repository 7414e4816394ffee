-- What the slots passed leave.
use Rattle.validity.specs.Checked.{bare}
use Rattle.validity.proofs.Laws.Passed.{Passed}
use Rattle.validity.proofs.maps_valid.Given as goal

abbrev pub invariant-loop-slot : goal.invariant-loop-slot
invariant-loop-slot l = Passed (bare l.memory) l.slot-index l.left
