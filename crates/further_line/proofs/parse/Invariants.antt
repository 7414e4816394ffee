-- There is a place for each number.
use Rattle.std.proofs.Common.{◌≤◌}
use Rattle.further_line.proofs.parse.Given as goal

abbrev pub invariant-loop-field : goal.invariant-loop-field
invariant-loop-field l = l.count ≤ 4
