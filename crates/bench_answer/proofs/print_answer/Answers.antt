-- Each field is put behind the last, and byte 10 behind the third.
use native.Mathlib.Omega.{arith}
use Rattle.model.specs.Rules.Line.{call_field, answer_field, value_field}
use Rattle.bench_answer.proofs.Laws.Answer.{field-length, put-answer}
use Rattle.bench_answer.proofs.print_answer.Goals as goal

pub put_field-after_answer-requires : goal.put_field-after_answer-requires
put_field-after_answer-requires c = omega (arith, field-length call_field c.args.call)

pub put_field-after_value-requires : goal.put_field-after_value-requires
put_field-after_value-requires c = omega (arith, field-length call_field c.args.call, field-length answer_field c.args.answer)

pub put_bytes-requires : goal.put_bytes-requires
put_bytes-requires c =
    omega (arith, field-length call_field c.args.call, field-length answer_field c.args.answer, field-length value_field c.args.value)

pub returns : goal.returns
returns c =
    put-answer
    _
    _
    _
    (omega arith)
    c.put_field-after_call.ensures
    c.put_field-after_answer.ensures
    c.put_field-after_value.ensures
    c.put_bytes.ensures
