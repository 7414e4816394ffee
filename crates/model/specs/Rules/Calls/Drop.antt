-- Drop. Document 02, job 5: "'drop' serves an open seat, 'revoke' a precommitted one. Drop answers 13 on a precommitted seat,
-- revoke 14 on an open one; both test rollback's 1, 8, 10 and 12 before." What it leaves is a rollback's (specs/Rules/Rollback.antt).
use Rattle.std.specs.Prelude.{ℕ}
use Rattle.std.proofs.Math.Option.{Option}
use Rattle.model.specs.Types.{Error, Memory, Answer, ⊤}
use Rattle.model.specs.Rules.First.{first, unless_refused}
use Rattle.model_types.specs.Answers.{answer}
use Rattle.model.specs.Rules.CauseLists.{open_causes, of_slot}
use Rattle.model.specs.Rules.Rollback.{rolled_back}

-- 1, 8, 10, 12 and 13
unfoldable pub drop_error : Memory → ℕ → Option Error
drop_error memory s = first (of_slot open_causes memory s)

unfoldable pub drop_answer : Memory → ℕ → Answer ⊤
drop_answer memory s = answer (drop_error memory s) tt

unfoldable pub drop_memory : Memory → ℕ → Memory
drop_memory memory s = unless_refused (drop_error memory s) (rolled_back memory s) memory
