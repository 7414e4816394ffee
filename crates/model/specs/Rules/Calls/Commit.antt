-- Commit. "If d is 0, the commit ends in its own call without a store. Otherwise that call answers 3·d + 2, and each
-- store call makes the next ... The maps in memory change with the last store."
use Rattle.std.specs.Prelude.{ℕ, cond, eqb}
use Rattle.std.proofs.Math.Option.{Option}
use Rattle.model.specs.Types.{Error, Commit, Memory, Answer}
use Rattle.model.specs.Rules.First.{first, unless_refused}
use Rattle.model_types.specs.Answers.{answer}
use Rattle.model_types.specs.Memory.{with_pending}
use Rattle.model.specs.Rules.Commit.{changed_of, commit_due, committed}
use Rattle.model.specs.Rules.CauseLists.{precommitted_causes, of_slot}

-- 1, 8, 10, 12 and 14
unfoldable pub commit_error : Memory → ℕ → Option Error
commit_error memory s = first (of_slot precommitted_causes memory s)

unfoldable pub committing : Memory → ℕ → Memory
committing memory s = cond (eqb (changed_of memory s) 0) (committed memory s) (with_pending memory (Commit s 0 (commit_due memory s)))

unfoldable pub commit_answer : Memory → ℕ → Answer ℕ
commit_answer memory s = answer (commit_error memory s) (commit_due memory s)

unfoldable pub commit_memory : Memory → ℕ → Memory
commit_memory memory s = unless_refused (commit_error memory s) (committing memory s) memory
