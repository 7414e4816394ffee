-- What the counts of status promise. Document 02, job 1: "They add up to m." And "A nursery saw 9 blocks free and was refused 6,
-- since seven were spoken for": how many blocks can be had is the available count.
use Rattle.std.specs.Prelude.{ℕ, ◌+◌, ◌≤◌, ◌<◌, ◌≡◌, true, List, length, get_or, ltb}
use Rattle.bitmap.specs.Sizes.{slot_count, max_count}
use Rattle.model.specs.Types.{Open, Nothing, Memory, TooFewAvailable, ReservedForOthers, Ok, Err}
use Rattle.model_types.specs.Memory.{slot_at}
use Rattle.model.specs.Rules.Reserves.{others_reserved}
use Rattle.model.specs.Rules.Valid.{valid}
use Rattle.model.specs.Rules.Causes.{of_available, too_few_available}
use Rattle.model.specs.Rules.Calls.Allocate.{first_met, allocate_answer}
use Rattle.model.specs.Rules.Calls.Status.{counts, status_answer}

-- it holds of every valid memory
abbrev pub OfValid : (Memory → Type 0) → Type 0
OfValid Holds = (memory : Memory) → valid memory ≡ true → Holds memory

-- status answers the counts
abbrev pub StatusAnswersCounts : Type 0
StatusAnswersCounts = OfValid (λ memory. status_answer memory ≡ Ok (counts memory))

-- the four counts add up to the block count
abbrev pub FourAddUp : Type 0
FourAddUp =
    OfValid (λ memory. (counts memory).available + (counts memory).allocating + (counts memory).freeing + (counts memory).held ≡ memory.blocks)

-- the allocated blocks are those being freed and those held
abbrev pub AllocatedIsFreeingAndHeld : Type 0
AllocatedIsFreeingAndHeld = OfValid (λ memory. (counts memory).allocated ≡ (counts memory).freeing + (counts memory).held)

-- cause 17 compares the available count with the count that is asked
abbrev pub AvailableIsCompared : Type 0
AvailableIsCompared = OfValid (λ memory. (count : ℕ) → of_available too_few_available memory count ≡ ltb (counts memory).available count)

-- an allocate that only the want of blocks can refuse: nothing is pending, the slot is open, the count is 1 to 64 and the list
-- is as long
pub record Eligible (memory : Memory) (s count : ℕ) (list : List ℕ) : Type 0 where
  pub none_pending : memory.pending ≡ Nothing
  pub below : s < slot_count
  pub is_open : (slot_at memory s).state ≡ Open
  pub some : 1 ≤ count
  pub few : count ≤ max_count
  pub room : count ≤ length list

-- so status tells which counts can be had. One that is at most available is never refused by 17, whatever else is asked. Where only
-- the want of blocks could refuse it, it is granted if it leaves what is reserved for the other slots, and else refused by 24
-- (document 02, job 7); there one that is more than available always is refused by 17
pub record CanBeHad (memory : Memory) : Type 0 where
  pub never : (s count : ℕ) (list : List ℕ) → count ≤ (counts memory).available
      → allocate_answer memory s count list ≡ Err TooFewAvailable → ⊥
  pub granted : (s count : ℕ) (list : List ℕ) → Eligible memory s count list
      → count + others_reserved memory.reserves s ≤ (counts memory).available
      → allocate_answer memory s count list ≡ Ok (get_or (first_met memory count) 0 0)
  pub reserved : (s count : ℕ) (list : List ℕ) → Eligible memory s count list → count ≤ (counts memory).available
      → (counts memory).available < count + others_reserved memory.reserves s
      → allocate_answer memory s count list ≡ Err ReservedForOthers
  pub always : (s count : ℕ) (list : List ℕ) → Eligible memory s count list → (counts memory).available < count
      → allocate_answer memory s count list ≡ Err TooFewAvailable

abbrev pub AvailableCanBeHad : Type 0
AvailableCanBeHad = OfValid CanBeHad
