-- Calls as data, and all that a call gives: what the theorems run over and what the bench program prints are both read off it.
use Rattle.std.specs.Prelude.{ℕ, List, [], take}
use Rattle.model.specs.Types.{Memory, Answer}
use Rattle.model_types.specs.Memory.{zero_memory}
use Rattle.model_types.specs.Answers.{answer_number, answer_value, status_value}
use Rattle.model.specs.Rules.Calls.Format.{format_answer, format_disk}
use Rattle.model.specs.Rules.Calls.Open.{open_answer, open_memory}
use Rattle.model.specs.Rules.Calls.Start.{start_answer, start_memory}
use Rattle.model.specs.Rules.Calls.Allocate.{allocate_answer, allocate_memory, allocate_list}
use Rattle.model.specs.Rules.Calls.AllocateExtent.{allocate_extent_answer, allocate_extent_memory, allocate_extent_list}
use Rattle.model.specs.Rules.Calls.Deallocate.{deallocate_answer, deallocate_memory}
use Rattle.model.specs.Rules.Calls.Precommit.{precommit_answer, precommit_memory}
use Rattle.model.specs.Rules.Calls.Commit.{commit_answer, commit_memory}
use Rattle.model.specs.Rules.Calls.Drop.{drop_answer, drop_memory}
use Rattle.model.specs.Rules.Calls.Revoke.{revoke_answer, revoke_memory}
use Rattle.model.specs.Rules.Calls.Store.{store_answer, store_memory, store_disk}
use Rattle.model.specs.Rules.Calls.Status.{status_answer}
use Rattle.model.specs.Rules.Calls.CommitCost.{commit_cost_answer}
use Rattle.model.specs.Rules.Calls.Reserve.{reserve_answer, reserve_memory}

-- the calls of demand 3 (open, start, ..), with a crash (document 01: a cut) among them, and those that document 02 adds
pub data Call : Type 0 where
  open_call : Call
  start_call : ℕ → Call
  allocate_call : ℕ → ℕ → List ℕ → Call
  allocate_extent_call : ℕ → ℕ → ℕ → List ℕ → Call
  deallocate_call : ℕ → ℕ → Call
  precommit_call : ℕ → Call
  commit_call : ℕ → Call
  drop_call : ℕ → Call
  revoke_call : ℕ → Call
  store_call : Call
  status_call : Call
  commit_cost_call : ℕ → ℕ → Call
  reserve_call : ℕ → ℕ → Call
  crash_call : Call

-- what a call gives: the memory and disk after it, its number (0, or the refusal's), its value, and the numbers listed
pub record Outcome : Type 0 where
  pub memory : Memory
  pub disk : List ℕ
  pub number : ℕ
  pub value : ℕ
  pub listed : List ℕ

-- of a call that lists no numbers
abbrev pub outcome_of : Memory → List ℕ → ℕ → ℕ → Outcome
outcome_of memory disk number value = record { memory = memory; disk = disk; number = number; value = value; listed = [] }

-- of one that grants blocks, and lists their numbers
abbrev pub grant_outcome : Memory → List ℕ → Answer ℕ → List ℕ → Outcome
grant_outcome memory disk answer listed =
    record { memory = memory; disk = disk; number = answer_number answer; value = answer_value answer; listed = listed }

-- each call by its definition; a list lent to a call that grants blocks is read in its first places
unfoldable pub outcome : Call → Memory → List ℕ → Outcome
outcome open_call memory disk = outcome_of (open_memory disk) disk (answer_number (open_answer disk)) (answer_value (open_answer disk))
outcome (start_call s) memory disk = outcome_of (start_memory memory s) disk (answer_number (start_answer memory s)) 0
outcome (allocate_call s count list) memory disk =
    grant_outcome (allocate_memory memory s count list) disk (allocate_answer memory s count list) (take count (allocate_list memory s count list))
outcome (allocate_extent_call s count near list) memory disk =
    grant_outcome
    (allocate_extent_memory memory s count near list)
    disk
    (allocate_extent_answer memory s count near list)
    (take count (allocate_extent_list memory s count near list))
outcome (deallocate_call s block) memory disk = outcome_of (deallocate_memory memory s block) disk (answer_number (deallocate_answer memory s block)) 0
outcome (precommit_call s) memory disk =
    outcome_of (precommit_memory memory s) disk (answer_number (precommit_answer memory s)) (answer_value (precommit_answer memory s))
outcome (commit_call s) memory disk =
    outcome_of (commit_memory memory s) disk (answer_number (commit_answer memory s)) (answer_value (commit_answer memory s))
outcome (drop_call s) memory disk = outcome_of (drop_memory memory s) disk (answer_number (drop_answer memory s)) 0
outcome (revoke_call s) memory disk =
    outcome_of (revoke_memory memory s) disk (answer_number (revoke_answer memory s)) (answer_value (revoke_answer memory s))
outcome store_call memory disk =
    outcome_of
    (store_memory memory disk)
    (store_disk memory disk)
    (answer_number (store_answer memory disk))
    (answer_value (store_answer memory disk))
outcome status_call memory disk = outcome_of memory disk (answer_number (status_answer memory)) (status_value (status_answer memory))
outcome (commit_cost_call s count) memory disk =
    outcome_of memory disk (answer_number (commit_cost_answer memory s count)) (answer_value (commit_cost_answer memory s count))
outcome (reserve_call s reservation) memory disk =
    outcome_of (reserve_memory memory s reservation) disk (answer_number (reserve_answer memory s reservation)) 0
outcome crash_call memory disk = outcome_of zero_memory disk 0 0

-- a format, which stands in no list: the memory stays
unfoldable pub format_outcome : ℕ → Memory → List ℕ → Outcome
format_outcome blocks memory disk = outcome_of memory (format_disk disk blocks) (answer_number (format_answer disk blocks)) 0
