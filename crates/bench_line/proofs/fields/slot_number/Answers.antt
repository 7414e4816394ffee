-- The slot's number, and what follows " n=" behind it.
use Rattle.std.proofs.Common.{sym, ap, ◌∙◌, Some}
use Rattle.model.specs.Rules.Line.{number_field}
use Rattle.bench_line.proofs.Laws.Fields.{slot-missing, slot-found}
use Rattle.bench_line.proofs.fields.slot_number.Goals as goal

pub returns-in_err-strip_prefix : goal.returns-in_err-strip_prefix
returns-in_err-strip_prefix c = c.from_residual-in_err-strip_prefix.ensures ∙ sym (slot-missing _ c.in_ok-slot.ensures c.in_err-strip_prefix.ensures.cases)

pub returns : goal.returns
returns c =
    let found = c.in_ok-strip_prefix.ensures.cases in
    c.number_field.ensures ∙ ap (λ bytes. number_field c.args.op c.in_ok-slot.slot (Some bytes)) found.1 ∙ sym (slot-found _ c.in_ok-slot.ensures found.0)
