-- How long a commit cost holds. Document 02, job 2: "If the n blocks are allocated and nothing else is touched, the commit makes
-- at most that many." Here whatever calls come in between, of this slot and of all others.
use Rattle.std.specs.Prelude.{ℕ, ◌+◌, ◌≤◌, ◌≡◌, Bool, true, false, cond, List, [], ◌∷◌, eqb}
use Rattle.model_types.specs.declared.memory.Pending.{Pending}
use Rattle.model.specs.Types.{Ok}
use Rattle.model.specs.Rules.Calls.Commit.{commit_answer}
use Rattle.model.specs.Rules.Calls.CommitCost.{commit_cost_answer}
use Rattle.model.specs.Promises.CommitCost.{CostKept}
use Rattle.model.specs.Rules.Outcome.{Call}
use Rattle.model.specs.Rules.Work.{Work, open_work, crash_work, store_work, begin_work, change_work, blocks_touched, works_in}
use Rattle.crash_safety.specs.World.{World, run, Without}
use Rattle.crash_safety.specs.InOrder.{AfterEvery}

-- the blocks that a work touches for slot s
unfoldable pub touches_for : ℕ → Work → ℕ
touches_for s open_work = 0
touches_for s crash_work = 0
touches_for s store_work = 0
touches_for s (begin_work new) = 0
touches_for s (change_work t change) = cond (eqb t s) (blocks_touched change) 0

-- all that some works touch for it
unfoldable pub touches_of : ℕ → List Work → ℕ
touches_of s [] = 0
touches_of s (new ∷ rest) = touches_for s new + touches_of s rest

-- and the calls of a list
abbrev pub touches_in : ℕ → List Call → World → ℕ
touches_in s calls w = touches_of s (works_in calls w.memory w.disk)

-- whether a work is an open or a crash: these end every transaction
unfoldable pub ends_use : Work → Pending → Bool
ends_use open_work pending = true
ends_use crash_work pending = true
ends_use store_work pending = false
ends_use (begin_work new) pending = false
ends_use (change_work t change) pending = false

-- after every list of calls: where commit cost answers so many for a slot and a count, the calls right behind it are accepted,
-- and the commit answers at most so many
abbrev pub CommitCostKeptInUse : Type 0
CommitCostKeptInUse =
    AfterEvery (λ w. (s count cost : ℕ) → commit_cost_answer w.memory s count ≡ Ok cost → CostKept w.memory s count cost)

-- and after every list of calls: where commit cost answers so many for a slot and a count, and calls of any slots follow, no open and no
-- crash, that touch no more than the count for this slot, then its commit, if it is accepted, answers at most so many
abbrev pub CommitCostHolds : Type 0
CommitCostHolds =
    AfterEvery (λ w.
    (s count cost : ℕ) → commit_cost_answer w.memory s count ≡ Ok cost
    → (calls : List Call) → Without ends_use calls w → touches_in s calls w ≤ count
    → (stores : ℕ) → commit_answer (run calls w).memory s ≡ Ok stores → stores ≤ cost)
