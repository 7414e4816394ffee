-- Reserve. Document 02, job 7: "While a seat is idle it may be given a claim of r blocks." No bitmap changes.
use Rattle.std.specs.Prelude.{ℕ, ◌++◌}
use Rattle.std.proofs.Math.Option.{Option}
use Rattle.model.specs.Types.{Error, Memory, Answer, ⊤}
use Rattle.model.specs.Rules.First.{first, unless_refused}
use Rattle.model_types.specs.Answers.{answer}
use Rattle.model.specs.Rules.Reserves.{total_reserved, reserving}
use Rattle.model.specs.Rules.Causes.{of_available}
use Rattle.model.specs.Rules.CauseLists.{idle_causes, of_slot, room_causes}

-- "Setting tests 1, 8, 10 and 11. Refused: 23 if the claims would then exceed the grantable blocks, after 11"
unfoldable pub reserve_error : Memory → ℕ → ℕ → Option Error
reserve_error memory s reservation =
    first (of_slot idle_causes memory s ++ of_available room_causes memory (total_reserved (reserving memory s reservation).reserves))

unfoldable pub reserve_answer : Memory → ℕ → ℕ → Answer ⊤
reserve_answer memory s reservation = answer (reserve_error memory s reservation) tt

unfoldable pub reserve_memory : Memory → ℕ → ℕ → Memory
reserve_memory memory s reservation = unless_refused (reserve_error memory s reservation) (reserving memory s reservation) memory
