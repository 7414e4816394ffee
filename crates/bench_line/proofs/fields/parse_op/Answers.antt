-- The first letter says which ops are left, and each of them is tried.
use Rattle.std.proofs.Common.{refl, sym, ap, ◌∙◌, arith, List}
use Rattle.model_types.specs.declared.line.Op.{Op}
use Rattle.model.specs.Rules.Line.{ops, parse_op}
use Rattle.bench_line.specs.Ops.{op_else}
use Rattle.bench_line.proofs.Laws.Ops.{at-letter, no-ops}
use Rattle.bench_line.proofs.fields.parse_op.Goals as goal

pub returns-in-97 : goal.returns-in-97
unfolding ops parse_op op_else
returns-in-97 c = c.op_else.ensures ∙ sym (at-letter _ _ 97 c.in_ok-first.ensures.value c.in-97.is)

pub returns-in-99 : goal.returns-in-99
unfolding ops
returns-in-99 c = c.parse_c.ensures ∙ sym (at-letter _ _ 99 c.in_ok-first.ensures.value c.in-99.is)

pub returns-in-100 : goal.returns-in-100
unfolding ops parse_op op_else
returns-in-100 c = c.op_else-in-100.ensures ∙ sym (at-letter _ _ 100 c.in_ok-first.ensures.value c.in-100.is)

pub returns-in-102 : goal.returns-in-102
unfolding ops
returns-in-102 c = c.parse_f.ensures ∙ sym (at-letter _ _ 102 c.in_ok-first.ensures.value c.in-102.is)

pub returns-in-111 : goal.returns-in-111
unfolding ops parse_op op_else
returns-in-111 c = c.op_else-in-111.ensures ∙ sym (at-letter _ _ 111 c.in_ok-first.ensures.value c.in-111.is)

pub returns-in-112 : goal.returns-in-112
unfolding ops parse_op op_else
returns-in-112 c = c.op_else-in-112.ensures ∙ sym (at-letter _ _ 112 c.in_ok-first.ensures.value c.in-112.is)

pub returns-in-114 : goal.returns-in-114
unfolding ops parse_op op_else
returns-in-114 c = c.op_else-in-114.ensures ∙ sym (at-letter _ _ 114 c.in_ok-first.ensures.value c.in-114.is)

pub returns-in-115 : goal.returns-in-115
unfolding ops
returns-in-115 c = c.parse_s.ensures ∙ sym (at-letter _ _ 115 c.in_ok-first.ensures.value c.in-115.is)

pub returns-in_default : goal.returns-in_default
unfolding parse_op
returns-in_default c =
    let first = c.in_ok-first.field-0.now in
    let none = no-ops first (omega arith) (omega arith) (omega arith) (omega arith) (omega arith) (omega arith) (omega arith) (omega arith) in
    sym (at-letter _ first first c.in_ok-first.ensures.value refl ∙ ap (λ (list : List Op). parse_op list c.args.bytes.now) none)
