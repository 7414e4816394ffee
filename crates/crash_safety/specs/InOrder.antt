-- In use, memory and disk stay in order: a second claim over every list of calls, beside crash safety.
--
-- No call leaves a memory that isn't valid, or a disk that isn't as the memory and its stores done leave it. So from an open
-- until the next crash no call is refused for cause 1 (memory not valid), 2 (disk not 386 words) or 6 (disk not as the memory
-- leaves it).
use Rattle.std.specs.Prelude.{ℕ, ◌≤◌, ◌≡◌, ◌⊎◌, true, List, [], ◌∷◌, length}
use Rattle.bitmap.specs.Sizes.{max_blocks}
use Rattle.model_types.specs.declared.memory.Memory.{Memory}
use Rattle.model_types.specs.declared.memory.Pending.TheVariants.{Nothing}
use Rattle.model.specs.Rules.Sizes.{disk_words}
use Rattle.model_types.specs.Memory.{zero_memory}
use Rattle.model.specs.Rules.Valid.{valid}
use Rattle.model.specs.Rules.Disk.{disk_matches}
use Rattle.model.specs.Rules.Pending.{stores_left}
use Rattle.model.specs.Rules.Completion.{StoresAccepted, completed}
use Rattle.model.specs.Rules.Calls.Format.{format_disk}
use Rattle.model.specs.Rules.Outcome.{Call, open_call, crash_call}
use Rattle.crash_safety.specs.World.{World, begin, step, run}

-- the memory is valid, and the disk is as it and its stores done leave it
pub record Consistent (memory : Memory) (disk : List ℕ) : Type 0 where
  pub is_valid : valid memory ≡ true
  pub size : length disk ≡ disk_words
  pub matches : disk_matches memory disk memory.pending ≡ true

-- a world in use
abbrev pub InUse : World → Type 0
InUse w = Consistent w.memory w.disk

-- the memory is that of zeros, as before the first open and after a crash, or the world is in use
abbrev pub InOrder : World → Type 0
InOrder w = (w.memory ≡ zero_memory) ⊎ InUse w

-- for every block count from 1 to 4,096, every disk that was formatted and every list of calls: it holds of the world after them
abbrev pub AfterEvery : (World → Type 0) → Type 0
AfterEvery Holds =
    (blocks : ℕ)
    → 1 ≤ blocks
    → blocks ≤ max_blocks
    → (disk : List ℕ)
    → length disk ≡ disk_words
    → (calls : List Call)
    → Holds (run calls (begin (format_disk disk blocks)))

abbrev pub AlwaysInOrder : Type 0
AlwaysInOrder = AfterEvery InOrder

-- no call of a list is a crash
abbrev pub NoCrash : List Call → Type 0
NoCrash [] = Unit {0}
NoCrash (call ∷ calls) = (call ≡ crash_call → ⊥) × NoCrash calls

-- from an open until the next crash, whatever calls came before, the world is in use
abbrev pub InUseFromOpen : Type 0
InUseFromOpen = AfterEvery (λ w. (later : List Call) → NoCrash later → InUse (run later (step open_call w)))

-- work that has begun can be brought to its end: each store still due is accepted, and then nothing is pending and memory and
-- disk are consistent
pub record Completes (memory : Memory) (disk : List ℕ) : Type 0 where
  pub accepted : StoresAccepted (stores_left memory.pending) memory disk
  pub ended : (completed memory disk).memory.pending ≡ Nothing
  pub consistent : Consistent (completed memory disk).memory (completed memory disk).disk

-- so in every world in use
abbrev pub WorkCompletes : Type 0
WorkCompletes = AfterEvery (λ w. InUse w → Completes w.memory w.disk)
