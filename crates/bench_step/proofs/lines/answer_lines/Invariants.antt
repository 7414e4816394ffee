-- The lines so far are answered. The measure is what is left of the input.
use Rattle.std.proofs.Common.{◌-◌, length}
use Rattle.bench_step.proofs.Laws.Turn.{Going}
use Rattle.bench_step.proofs.lines.answer_lines.Given as goal

abbrev pub invariant-loop-end : goal.invariant-loop-end
invariant-loop-end l = Going l.input l.fn.number l.fn.memory l.fn.disk l.fn.out l.fn.at l.number l.memory l.disk l.out l.at l.rest l.end

abbrev pub decreases-loop-end : goal.decreases-loop-end
decreases-loop-end l = length l.input - l.rest
