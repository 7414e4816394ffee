-- Commit cost. Document 02, job 2: "For an open seat and n more blocks (0 to 64), foretell the commit's stores without doing
-- anything: with t blocks touched so far, the answer is 0 if t + n is 0, else 3·(the smaller of t + n and W) + 2." The memory
-- stays.
use Rattle.std.specs.Prelude.{ℕ, ◌+◌, min, cond, ◌++◌, length, eqb}
use Rattle.std.proofs.Math.Option.{Option}
use Rattle.model.specs.Types.{Error, Memory, Answer}
use Rattle.model.specs.Rules.First.{first}
use Rattle.model_types.specs.Answers.{answer}
use Rattle.model_types.specs.Memory.{volume_words}
use Rattle.model_types.specs.Pending.{stores_for}
use Rattle.model.specs.Rules.Touched.{touched_blocks}
use Rattle.model.specs.Rules.Reserves.{others_reserved}
use Rattle.model.specs.Rules.Causes.{of_available}
use Rattle.model.specs.Rules.CauseLists.{open_causes, of_slot, cost_causes}

-- "Causes as for allocate, but a count of 0 passes and no list is lent." Job 7: 24 "last, for runs and Job 2's
-- foretelling too". So 1, 8, 10, 12, 13; 15, 17, 24
unfoldable pub commit_cost_error : Memory → ℕ → ℕ → Option Error
commit_cost_error memory s count =
    first (of_slot open_causes memory s ++ of_available cost_causes memory count (others_reserved memory.reserves s))

-- the most stores of a commit, in a volume of so many words, that touched so many blocks
unfoldable pub cost_for : ℕ → ℕ → ℕ
cost_for words blocks = cond (eqb blocks 0) 0 (stores_for (min blocks words))

unfoldable pub commit_cost : Memory → ℕ → ℕ → ℕ
commit_cost memory s count = cost_for (volume_words memory) (length (touched_blocks memory s) + count)

unfoldable pub commit_cost_answer : Memory → ℕ → ℕ → Answer ℕ
commit_cost_answer memory s count = answer (commit_cost_error memory s count) (commit_cost memory s count)
