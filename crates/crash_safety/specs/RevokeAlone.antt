-- Who ends a precommitted transaction. Document 02, job 5: "A station gave up another's sealed work by mistake." Beside an open
-- and a crash, which end every transaction, only a revoke of the slot and its commit do.
use Rattle.std.specs.Prelude.{ℕ, ◌≡◌, Bool, true, false, ◌&&◌, List, eqb}
use Rattle.model_types.specs.declared.memory.SlotState.TheVariants.{Precommitted}
use Rattle.model_types.specs.declared.memory.Pending.{Pending}
use Rattle.model_types.specs.declared.memory.Pending.TheVariants.{Commit}
use Rattle.model_types.specs.Memory.{slot_at}
use Rattle.model.specs.Rules.Pending.{is_commit_of}
use Rattle.model.specs.Rules.Outcome.{Call}
use Rattle.model.specs.Rules.Work.{Work, open_work, crash_work, store_work, begin_work, change_work, bearing}
use Rattle.crash_safety.specs.Ledger.{Sets, sets_of}
use Rattle.crash_safety.specs.World.{World, run, Without}
use Rattle.crash_safety.specs.InOrder.{AfterEvery}

-- slot s is precommitted, its commit isn't pending, and these are the blocks that it took and freed
pub record Waiting (s : ℕ) (sets : Sets) (w : World) : Type 0 where
  pub precommitted : (slot_at w.memory s).state ≡ Precommitted
  pub not_committing : (done due : ℕ) → w.memory.pending ≡ Commit s done due → ⊥
  pub same_sets : sets_of w.ledger s ≡ sets

-- whether a work is an open or a crash, or a revoke or a commit of slot s
unfoldable pub ends_waiting : ℕ → Work → Pending → Bool
ends_waiting s open_work pending = true
ends_waiting s crash_work pending = true
ends_waiting s store_work pending = false
ends_waiting s (begin_work new) pending = is_commit_of s new
ends_waiting s (change_work t change) pending = eqb t s && (bearing change).revokes

-- after every list of calls: where a precommitted slot waits, it waits with the same blocks after all calls that do no such work: drops
-- of it among them, and whatever is refused
abbrev pub RevokeAlone : Type 0
RevokeAlone =
    AfterEvery (λ w. (s : ℕ) (sets : Sets) → Waiting s sets w → (calls : List Call) → Without (ends_waiting s) calls w → Waiting s sets (run calls w))
