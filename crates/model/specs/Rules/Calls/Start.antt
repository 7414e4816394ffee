-- Start. "TAM becomes a copy of SAM, the seat opens."
use Rattle.std.specs.Prelude.{ℕ}
use Rattle.std.proofs.Math.Option.{Option}
use Rattle.model.specs.Types.{Error, Open, Memory, Answer, ⊤}
use Rattle.model.specs.Rules.First.{first, unless_refused}
use Rattle.model_types.specs.Answers.{answer}
use Rattle.model_types.specs.Memory.{with_slot, with_state, with_tam, slot_at}
use Rattle.model.specs.Rules.CauseLists.{idle_causes, of_slot}

-- 1, 8, 10 and 11
unfoldable pub start_error : Memory → ℕ → Option Error
start_error memory s = first (of_slot idle_causes memory s)

unfoldable pub started : Memory → ℕ → Memory
started memory s = with_slot memory s (with_state (with_tam (slot_at memory s) memory.sam) Open)

unfoldable pub start_answer : Memory → ℕ → Answer ⊤
start_answer memory s = answer (start_error memory s) tt

unfoldable pub start_memory : Memory → ℕ → Memory
start_memory memory s = unless_refused (start_error memory s) (started memory s) memory
