-- What commit cost promises. Document 02, job 2: "If the n blocks are allocated and nothing else is touched, the commit makes at
-- most that many."
use Rattle.std.specs.Prelude.{ℕ, ◌+◌, ◌≤◌, ◌<◌, ◌≡◌, true, List, length, get_or}
use Rattle.bitmap.specs.Sizes.{slot_count, max_count}
use Rattle.bitmap.specs.Bits.{IsBitmap}
use Rattle.model.specs.Types.{Open, Nothing, Memory, Ok}
use Rattle.model_types.specs.Memory.{slot_at, volume_words}
use Rattle.model_types.specs.Pending.{stores_for}
use Rattle.model.specs.Rules.Reserves.{others_reserved}
use Rattle.model.specs.Rules.Valid.{valid}
use Rattle.model.specs.Rules.Calls.Allocate.{first_met, allocate_answer, allocate_memory}
use Rattle.model.specs.Rules.Calls.Precommit.{precommit_answer, precommit_memory}
use Rattle.model.specs.Rules.Calls.Commit.{commit_answer}
use Rattle.model.specs.Rules.Calls.Status.{counts}
use Rattle.model.specs.Rules.Calls.CommitCost.{commit_cost, commit_cost_answer}
use Rattle.model.specs.Promises.FourCounts.{OfValid}

-- a precommit of slot s and then its commit are accepted, and the commit answers at most so many stores
pub record CommitsWithin (memory : Memory) (s cost : ℕ) : Type 0 where
  pub precommits : precommit_answer memory s ≡ Ok 0
  pub stores : ℕ
  pub commits : commit_answer (precommit_memory memory s) s ≡ Ok stores
  pub within : stores ≤ cost

-- so it is of the transaction as it stands, for any count, and after an allocate of the count, which is accepted
pub record CostKept (memory : Memory) (s count cost : ℕ) : Type 0 where
  pub as_it_stands : CommitsWithin memory s cost
  pub allocates : (list : List ℕ) → 1 ≤ count → count ≤ length list
      → allocate_answer memory s count list ≡ Ok (get_or (first_met memory count) 0 0)
  pub allocated : (list : List ℕ) → 1 ≤ count → count ≤ length list → CommitsWithin (allocate_memory memory s count list) s cost

-- from every valid memory, with any list as long as the count. SAM is 128 words of 32 bits, as in every memory that the
-- allocator's types can hold
abbrev pub CommitCostKept : Type 0
CommitCostKept =
    (memory : Memory) → valid memory ≡ true → IsBitmap memory.sam.words
    → (s count cost : ℕ) → commit_cost_answer memory s count ≡ Ok cost → CostKept memory s count cost

-- nothing else refuses it: for an open slot, with nothing pending, every count up to 64 and to the available blocks, less those that
-- are reserved for the other slots, is answered, "a count of 0 passes"
abbrev pub CommitCostAnswered : Type 0
CommitCostAnswered =
    OfValid (λ memory. (s count : ℕ) → memory.pending ≡ Nothing → s < slot_count → (slot_at memory s).state ≡ Open
    → count ≤ max_count → count + others_reserved memory.reserves s ≤ (counts memory).available
    → commit_cost_answer memory s count ≡ Ok (commit_cost memory s count))

-- and no cost is more than the stores of a commit that changes every word of the volume
abbrev pub CommitCostAtMost : Type 0
CommitCostAtMost = (memory : Memory) (s count : ℕ) → commit_cost memory s count ≤ stores_for (volume_words memory)
