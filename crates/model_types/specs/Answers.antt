-- Answers: the number and the value of an answer, as document 01's bench line prints them: "answer (0 or the refusal), value: for
-- commit and open the stores due, for store those still due, for alloc the first block, for stat the allocated count, else, and on
-- refusal, 0." Precommit and revoke answer stores as a commit does, none: that 0. So does a commit cost, which has no bench line.
use Rattle.std.specs.Prelude.{ℕ, Result, Ok, Err}
use Rattle.std.proofs.Math.Option.{Option, none, some}
use Rattle.model_types.specs.declared.error.Error.{Error}
use Rattle.model_types.specs.declared.answer.Counts.{Counts}
use Rattle.model_types.specs.Errors.{code}

-- what a call gives, or its refusal
abbrev pub Answer : Type 0 → Type 0
Answer A = Result A Error

abbrev pub answer_number : {A : Type 0} → Answer A → ℕ
answer_number (Ok given) = 0
answer_number (Err error) = code error

-- of a call that gives blocks, or stores due
abbrev pub answer_value : Answer ℕ → ℕ
answer_value (Ok value) = value
answer_value (Err error) = 0

abbrev pub status_value : Answer Counts → ℕ
status_value (Ok counts) = counts.allocated
status_value (Err error) = 0

-- the answer of a call where its first error is this one, or none
unfoldable pub answer : {A : Type 0} → Option Error → A → Answer A
answer none given = Ok given
answer (some error) given = Err error
