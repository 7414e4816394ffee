-- What the functions of the pending work tell: whether there is none, its slot, and a commit's stores.
use Rattle.std.specs.Prelude.{ℕ, ◌+◌, ◌-◌, ◌*◌, ◌/◌, Bool, true, false}
use Rattle.bitmap.specs.Sizes.{slot_index}
use Rattle.model_types.specs.declared.memory.Pending.{Pending}
use Rattle.model_types.specs.declared.memory.Pending.TheVariants.{Nothing, Commit, Recovery}

-- whether no work is pending
unfoldable pub is_nothing : Pending → Bool
is_nothing Nothing = true
is_nothing (Commit s done due) = false
is_nothing (Recovery done due) = false

-- the slot to look at for a commit, and 0 for other work
unfoldable pub owner_of : Pending → ℕ
owner_of Nothing = 0
owner_of (Commit s done due) = slot_index s
owner_of (Recovery done due) = 0

-- "3·d + 2": the stores of a commit that changes d words
abbrev pub stores_for : ℕ → ℕ
stores_for changed = 3 * changed + 2

-- and the d of a commit with so many stores due
abbrev pub changed_for : ℕ → ℕ
changed_for due = (due - 2) / 3
