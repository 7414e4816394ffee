-- Document 02, job 5, computed: "The program's roll becomes drop and revoke."
use Rattle.std.specs.Prelude.{◌≡◌, refl, List, [], ◌∷◌, ◌++◌, ℕ, Some, None}
use Rattle.model_types.specs.declared.line.Op.{Op}
use Rattle.model.specs.Rules.Line.{op_field, slot_field, count_field, after_prefix, is_digit, digits, digits_in_form, number_field, slot_number, ops, parse_op, parse_after_op, parse_line}

-- the line with this word, for slot 7, and 0
abbrev line_of : List ℕ → List ℕ
line_of word = op_field ++ word ++ slot_field ++ (55 ∷ []) ++ count_field ++ (48 ∷ [])

-- "op=drop seat=7 n=0"
pub drop_read : parse_line (line_of (100 ∷ 114 ∷ 111 ∷ 112 ∷ [])) ≡ Some (record { op = Op.Drop; slot = 7; n = 0 })
unfolding after_prefix is_digit digits digits_in_form number_field slot_number ops parse_op parse_after_op parse_line
drop_read = refl

-- "op=revoke seat=7 n=0"
pub revoke_read : parse_line (line_of (114 ∷ 101 ∷ 118 ∷ 111 ∷ 107 ∷ 101 ∷ [])) ≡ Some (record { op = Op.Revoke; slot = 7; n = 0 })
unfolding after_prefix is_digit digits digits_in_form number_field slot_number ops parse_op parse_after_op parse_line
revoke_read = refl

-- "op=roll seat=7 n=0"
pub roll_malformed : parse_line (line_of (114 ∷ 111 ∷ 108 ∷ 108 ∷ [])) ≡ None
unfolding after_prefix is_digit digits digits_in_form number_field slot_number ops parse_op parse_after_op parse_line
roll_malformed = refl
