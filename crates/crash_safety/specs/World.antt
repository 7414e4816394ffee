-- The world that calls are made in, and a run of a list of calls.
use Rattle.std.specs.Prelude.{ℕ, ◌≡◌, Bool, false, List, [], ◌∷◌}
use Rattle.model_types.specs.declared.memory.Memory.{Memory}
use Rattle.model_types.specs.declared.memory.Pending.{Pending}
use Rattle.model_types.specs.Memory.{zero_memory}
use Rattle.model.specs.Rules.Outcome.{Call, Outcome, outcome, open_call, start_call, allocate_call, allocate_extent_call, deallocate_call, precommit_call, commit_call, drop_call, revoke_call, store_call, status_call, commit_cost_call, reserve_call, crash_call}
use Rattle.model.specs.Rules.Work.{Work, works_in, some_work}
use Rattle.crash_safety.specs.Ledger.{Ledger, Event, Kind, empty_ledger, enter_all, crash_event, opening, starting, allocating, deallocating, precommitting, committing, rolling, storing, asking, reserving}

-- the memory and disk that the next call gets, and the ledger beside them
pub record World : Type 0 where
  pub memory : Memory
  pub disk : List ℕ
  pub ledger : Ledger

abbrev pub world_of : Memory → List ℕ → Ledger → World
world_of memory disk ledger = record { memory = memory; disk = disk; ledger = ledger }

-- "after the format or a cut the medium and a memory of zeros"
abbrev pub begin : List ℕ → World
begin disk = world_of zero_memory disk empty_ledger

abbrev pub event_of : Kind → ℕ → ℕ → Outcome → Event
event_of kind slot block after =
    record { kind = kind; slot = slot; block = block; answer = after.number; value = after.value; listed = after.listed }

-- what the ledger is fed of a call: its kind, slot and block, and of its outcome the number, the value and the numbers listed.
-- "an opening counts as a cut just before it". Document 02, job 4: "A run counts as an allocation of each block in it, for cuts
-- and holders too." Job 5: "For cuts and holders either is a rollback."
unfoldable pub events : Call → Outcome → List Event
events open_call after = crash_event ∷ event_of opening 0 0 after ∷ []
events (start_call s) after = event_of starting s 0 after ∷ []
events (allocate_call s count list) after = event_of allocating s 0 after ∷ []
events (allocate_extent_call s count near list) after = event_of allocating s 0 after ∷ []
events (deallocate_call s block) after = event_of deallocating s block after ∷ []
events (precommit_call s) after = event_of precommitting s 0 after ∷ []
events (commit_call s) after = event_of committing s 0 after ∷ []
events (drop_call s) after = event_of rolling s 0 after ∷ []
events (revoke_call s) after = event_of rolling s 0 after ∷ []
events store_call after = event_of storing 0 0 after ∷ []
events status_call after = event_of asking 0 0 after ∷ []
events (commit_cost_call s count) after = event_of asking s 0 after ∷ []
events (reserve_call s reservation) after = event_of reserving s 0 after ∷ []
events crash_call after = crash_event ∷ []

-- one call: memory and disk are its outcome's, and the ledger is fed its events
unfoldable pub step : Call → World → World
step call w =
    let after : Outcome = outcome call w.memory w.disk in
    world_of after.memory after.disk (enter_all (events call after) w.ledger)

-- the calls of a list, one after the other
unfoldable pub run : List Call → World → World
run [] w = w
run (call ∷ calls) w = run calls (step call w)

-- no work that these calls do, where it stands, passes the test. So a refused call may always be among them
abbrev pub Without : (Work → Pending → Bool) → List Call → World → Type 0
Without test calls w = some_work test (works_in calls w.memory w.disk) w.memory w.disk ≡ false
