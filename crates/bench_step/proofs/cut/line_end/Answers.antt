-- The bytes behind the start are searched.
use native.Mathlib.Omega.{arith}
use Rattle.bench_step.proofs.Laws.Cut.{end-inside, end-at}
use Rattle.bench_step.proofs.cut.line_end.Goals as goal

pub overflow_add-result : goal.overflow_add-result
overflow_add-result c = omega (arith, end-inside c.args.input.now c.args.start c.line_len.result c.requires c.line_len.ensures)

pub returns : goal.returns
returns c = end-at c.args.input.now c.args.start c.line_len.result c.requires c.line_len.ensures
