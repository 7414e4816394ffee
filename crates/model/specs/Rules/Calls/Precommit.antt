-- Precommit. "the seat takes no more touches. No map changes." It answers stores due as a commit does: it has none.
use Rattle.std.specs.Prelude.{ℕ}
use Rattle.std.proofs.Math.Option.{Option}
use Rattle.model.specs.Types.{Error, Precommitted, Memory, Answer}
use Rattle.model.specs.Rules.First.{first, unless_refused}
use Rattle.model_types.specs.Answers.{answer}
use Rattle.model_types.specs.Memory.{with_slot, with_state, slot_at}
use Rattle.model.specs.Rules.CauseLists.{open_causes, of_slot}

-- 1, 8, 10, 12 and 13
unfoldable pub precommit_error : Memory → ℕ → Option Error
precommit_error memory s = first (of_slot open_causes memory s)

unfoldable pub precommitting : Memory → ℕ → Memory
precommitting memory s = with_slot memory s (with_state (slot_at memory s) Precommitted)

unfoldable pub precommit_answer : Memory → ℕ → Answer ℕ
precommit_answer memory s = answer (precommit_error memory s) 0

unfoldable pub precommit_memory : Memory → ℕ → Memory
precommit_memory memory s = unless_refused (precommit_error memory s) (precommitting memory s) memory
