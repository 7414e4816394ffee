-- Line by line: the line's call is the model's step, and its answer is printed where the last one ends.
use Rattle.bench_step.proofs.Laws.Turn.{going-turn, going-ends}
use Rattle.bench_step.proofs.lines.answer_lines.Goals as goal

pub loop-end-preserved : goal.loop-end-preserved
loop-end-preserved c =
    going-turn c.loop-end.invariant c.requires.input_in_bounds c.loop-end-test.true
    c.answer_line-answer.ensures c.print_answer-at.ensures c.next_end-end-in-loop-end.ensures c.answer_line-answer.auto.disk c.print_answer-at.auto.out

pub returns : goal.returns
returns c = going-ends c.loop-end.invariant c.loop-end-test.false
