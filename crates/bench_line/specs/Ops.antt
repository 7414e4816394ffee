-- One op of a line.
use Rattle.std.specs.Prelude.{ℕ, List, ◌++◌, Option, None, Some}
use Rattle.model_types.specs.declared.line.Op.{Op}
use Rattle.model_types.specs.declared.line.Line.{Line}
use Rattle.model.specs.Rules.Line.{op_word, slot_field, after_prefix, slot_number}

-- what follows an op's word and " seat=", or what other ops give
unfoldable pub op_else : Op → List ℕ → Option Line → Option Line
op_else op bytes other = elim (after_prefix (op_word op ++ slot_field) bytes) [ None ↦ other | Some rest ↦ slot_number op (Some rest) ]
