-- What holds after every list of calls.
use Prim.Native.Nat.{ℕ, ◌*◌, ◌^◌, ◌≤◌, ◌<◌}
use mathlib.Core.Path.{◌≡◌, sym, ap, ◌∙◌}
use mathlib.Core.Bool.{Bool, true, not, ◌&&◌}
use mathlib.Core.Option.{Option, none, some}
use mathlib.Core.List.{List}
use lib.ListN.{length, get_or}
use Rattle.bitmap.specs.Sizes.{word_bits, slot_count}
use Rattle.bitmap.specs.Bits.{bit, IsBitmap}
use Rattle.bitmap.specs.Blocks.{member}
use Rattle.model_types.specs.declared.memory.Memory.{Memory}
use Rattle.model_types.specs.declared.memory.Slot.{Slot}
use Rattle.model_types.specs.declared.memory.Pending.{Pending}
use Rattle.model_types.specs.declared.memory.Pending.TheVariants.{Nothing, Commit, Recovery}
use Rattle.model_types.specs.Memory.{slot_at, is_active, sam_bit, tam_bit}
use Rattle.model.specs.Rules.Commit.{committed_sam, changed_of}
use Rattle.model.specs.Rules.Valid.{valid}
use Rattle.model.specs.Rules.Disk.{durable}
use Rattle.model.specs.Rules.Calls.Open.{open_error}
use Rattle.crash_safety.specs.Ledger.{Sets, no_sets, Counting, commit_at, Ledger, sets_of, holders}
use Rattle.crash_safety.specs.World.{World, world_of}

-- every word fits 32 bits
abbrev pub Small : List ℕ → Type 0
Small words = (k : ℕ) → get_or words k 0 < 2 ^ word_bits

-- a slot's sets in the ledger: taken is what the active slot has touched where SAM is 0, freed what it has touched where SAM is 1
pub record Tied (sam : ℕ → Bool) (slot : Slot) (sets : Sets) : Type 0 where
  pub taken : (b : ℕ) → member b sets.taken ≡ (is_active slot.state && (tam_bit slot b && not (sam b)))
  pub freed : (b : ℕ) → member b sets.freed ≡ (is_active slot.state && (sam b && not (tam_bit slot b)))

-- SAM is the allocated set, every slot is tied to its sets, and this commit is under count, or none
pub record Plain (memory : Memory) (ledger : Ledger) (counting : Option Counting) : Type 0 where
  pub finds : (b : ℕ) → sam_bit memory b ≡ member b ledger.allocated
  pub slots : (t : ℕ) → Tied (sam_bit memory) (slot_at memory t) (sets_of ledger t)
  pub counted : ledger.counting ≡ counting

-- slot s is past its commit point: the allocated set is what SAM becomes, its own sets are empty
pub record Past (memory : Memory) (ledger : Ledger) (s : ℕ) : Type 0 where
  pub finds : (b : ℕ) → bit (committed_sam memory s).words b ≡ member b ledger.allocated
  pub slots : (t : ℕ) → (t ≡ s → ⊥) → Tied (sam_bit memory) (slot_at memory t) (sets_of ledger t)
  pub own : sets_of ledger s ≡ no_sets
  pub uncounted : ledger.counting ≡ none

abbrev pub counting_of : ℕ → ℕ → Option Counting
counting_of s number = some (commit_at s number)

-- by the pending work: a commit is under count, at its stores done, until its commit point, the store 2·d + 1
abbrev pub PendingTied : Memory → Ledger → Pending → Type 0
PendingTied memory ledger Nothing = Plain memory ledger none
PendingTied memory ledger (Recovery done due) = Plain memory ledger none
PendingTied memory ledger (Commit s done due) =
    (done ≤ 2 * changed_of memory s → Plain memory ledger (counting_of s done))
    × (2 * changed_of memory s < done → Past memory ledger s)

-- a valid memory and the ledger
pub record Related (memory : Memory) (ledger : Ledger) : Type 0 where
  pub sam : IsBitmap memory.sam.words
  pub slots : length memory.slots ≡ slot_count
  pub pending : PendingTied memory ledger memory.pending

-- the invariant. A memory that isn't valid, as that of zeros, is refused by every call but open, so nothing is asked of it
pub record Invariant (w : World) : Type 0 where
  pub small : Small w.disk
  pub opens : open_error w.disk ≡ none
  pub kept : (b : ℕ) → bit (durable w.disk) b ≡ member b w.ledger.allocated
  pub one_holder : (b : ℕ) → holders w.ledger b ≤ 1
  pub slots : length w.ledger.slots ≡ slot_count
  pub related : valid w.memory ≡ true → Related w.memory w.ledger

-- where the disk and the allocated set stay, what is said of them stays
pub same-disk : (w : World) (memory : Memory) (ledger : Ledger)
    → Invariant w
    → ledger.allocated ≡ w.ledger.allocated
    → ((b : ℕ) → holders ledger b ≤ 1)
    → length ledger.slots ≡ slot_count
    → (valid memory ≡ true → Related memory ledger)
    → Invariant (world_of memory w.disk ledger)
same-disk w memory ledger i same holding slots related =
    record {
      small = i.small;
      opens = i.opens;
      kept = λ b. i.kept b ∙ sym (ap (member b) same);
      one_holder = holding;
      slots = slots;
      related = related;
    }
