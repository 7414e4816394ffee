-- Revoke. Document 02, job 5: "'drop' serves an open seat, 'revoke' a precommitted one. Drop answers 13 on a precommitted seat,
-- revoke 14 on an open one; both test rollback's 1, 8, 10 and 12 before." What it leaves is a rollback's (specs/Rules/Rollback.antt). It
-- answers stores due as a commit does: it has none.
use Rattle.std.specs.Prelude.{ℕ}
use Rattle.std.proofs.Math.Option.{Option}
use Rattle.model.specs.Types.{Error, Memory, Answer}
use Rattle.model.specs.Rules.First.{first, unless_refused}
use Rattle.model_types.specs.Answers.{answer}
use Rattle.model.specs.Rules.CauseLists.{precommitted_causes, of_slot}
use Rattle.model.specs.Rules.Rollback.{rolled_back}

-- 1, 8, 10, 12 and 14
unfoldable pub revoke_error : Memory → ℕ → Option Error
revoke_error memory s = first (of_slot precommitted_causes memory s)

unfoldable pub revoke_answer : Memory → ℕ → Answer ℕ
revoke_answer memory s = answer (revoke_error memory s) 0

unfoldable pub revoke_memory : Memory → ℕ → Memory
revoke_memory memory s = unless_refused (revoke_error memory s) (rolled_back memory s) memory
