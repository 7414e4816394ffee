-- What allocate extent promises. Document 02, job 4: "n adjoining grantable blocks (1 to 64) whose first block is nearest to a
-- named block, the lower one at equal distance. Its numbers are listed as allocate lists them, rising."
use Rattle.std.specs.Prelude.{ℕ, ◌+◌, ◌≤◌, ◌<◌, ◌≡◌, true, List, length, get_or}
use Rattle.bitmap.specs.Blocks.{is_available}
use Rattle.bitmap.specs.Extents.{distance}
use Rattle.model.specs.Types.{Memory, NoExtent, Ok, Err}
use Rattle.model.specs.Rules.Available.{available}
use Rattle.model.specs.Rules.Reserves.{others_reserved}
use Rattle.model.specs.Promises.FourCounts.{OfValid, Eligible}
use Rattle.model.specs.Rules.Calls.AllocateExtent.{allocate_extent_answer, allocate_extent_list}

-- so many blocks from b on lie below m and are available
pub record IsExtent (memory : Memory) (count b : ℕ) : Type 0 where
  pub within : b + count ≤ memory.blocks
  pub available : (i : ℕ) → i < count → is_available memory.sam.words memory.com.words (b + i) ≡ true

-- b is the first block granted: an extent starts there, and of all extents it is the nearest one, the lower one at equal distance
pub record Nearest (memory : Memory) (count near b : ℕ) : Type 0 where
  pub extent : IsExtent memory count b
  pub none_nearer : (c : ℕ) → IsExtent memory count c → distance near b ≤ distance near c
  pub none_lower : (c : ℕ) → IsExtent memory count c → distance near b ≡ distance near c → b ≤ c

abbrev pub GrantsNearest : Type 0
GrantsNearest =
    (memory : Memory) (s count near : ℕ) (list : List ℕ) (b : ℕ)
    → allocate_extent_answer memory s count near list ≡ Ok b
    → Nearest memory count near b

-- the list as long as before, with b and the blocks after it in its first places, the later places as they were
pub record ListsAdjoining (count b : ℕ) (list after : List ℕ) : Type 0 where
  pub same_length : length after ≡ length list
  pub rising : (i : ℕ) → i < count → get_or after i 0 ≡ b + i
  pub later : (i : ℕ) → count ≤ i → get_or after i 0 ≡ get_or list i 0

abbrev pub ListsExtent : Type 0
ListsExtent =
    (memory : Memory) (s count near : ℕ) (list : List ℕ) (b : ℕ)
    → allocate_extent_answer memory s count near list ≡ Ok b
    → ListsAdjoining count b list (allocate_extent_list memory s count near list)

-- where there is an extent, one is granted if only the want of one could refuse it, and it leaves what is reserved for the other slots
abbrev pub FindsExtent : Type 0
FindsExtent =
    OfValid (λ memory. (s count near : ℕ) (list : List ℕ) → Eligible memory s count list → near < memory.blocks
    → (c : ℕ) → IsExtent memory count c
    → count + others_reserved memory.reserves s ≤ length (available memory)
    → (b : ℕ) × (allocate_extent_answer memory s count near list ≡ Ok b))

-- and where 22 is answered there is none
abbrev pub NoneToFind : Type 0
NoneToFind =
    (memory : Memory) (s count near : ℕ) (list : List ℕ)
    → allocate_extent_answer memory s count near list ≡ Err NoExtent
    → (c : ℕ) → IsExtent memory count c → ⊥

-- a single block is the named one where that is available
abbrev pub GrantsNamed : Type 0
GrantsNamed =
    (memory : Memory) (s near : ℕ) (list : List ℕ) (b : ℕ)
    → allocate_extent_answer memory s 1 near list ≡ Ok b
    → is_available memory.sam.words memory.com.words near ≡ true
    → b ≡ near
