-- What allocate promises of the blocks that it grants and of their order, and which calls move the cursor. Document 02, job 6: "Files
-- written in turn should lie in turn. Allocate searches from the block after the last one granted, wraps round at m, and lists blocks
-- in the order met. The memory gains the block to be searched first, 0 after opening or once block m less 1 was the last granted".
use Rattle.std.specs.Prelude.{ℕ, ◌+◌, ◌-◌, ◌≤◌, ◌<◌, ◌≡◌, Bool, true, false, cond, List, ◌++◌, length, get_or, take, drop, ltb}
use Rattle.bitmap.specs.Blocks.{is_available, member}
use Rattle.model.specs.Types.{Pending, Memory, Ok}
use Rattle.model.specs.Rules.Available.{available}
use Rattle.model.specs.Rules.Calls.Allocate.{first_met, allocate_answer, allocate_memory, allocate_list}
use Rattle.model.specs.Rules.Calls.AllocateExtent.{allocate_extent_answer, allocate_extent_memory}
use Rattle.model.specs.Rules.Outcome.{Call, open_call, crash_call, outcome}
use Rattle.model.specs.Rules.Work.{Work, open_work, crash_work, store_work, begin_work, change_work, bearing, works, some_work}

-- it holds wherever an allocate is granted, b being its value
abbrev pub OfGrant : ((memory : Memory) (s count : ℕ) (list : List ℕ) (b : ℕ) → Type 0) → Type 0
OfGrant Holds =
    (memory : Memory) (s count : ℕ) (list : List ℕ) (b : ℕ) → allocate_answer memory s count list ≡ Ok b → Holds memory s count list b

-- ---- what is listed

-- a block of the volume that is available
pub record AvailableBlock (memory : Memory) (b : ℕ) : Type 0 where
  pub within : b < memory.blocks
  pub available : is_available memory.sam.words memory.com.words b ≡ true

-- how far a block lies ahead of the cursor, going round at m
unfoldable pub ahead : Memory → ℕ → ℕ
ahead memory b = cond (ltb b memory.cursor) (b + memory.blocks - memory.cursor) (b - memory.cursor)

-- the first places have available blocks, none twice, in the order met from the cursor on; nothing available between the cursor and
-- the last of them is left out; the later places are as they were
pub record ListsMet (memory : Memory) (count : ℕ) (list after : List ℕ) : Type 0 where
  pub same_length : length after ≡ length list
  pub available : (i : ℕ) → i < count → AvailableBlock memory (get_or after i 0)
  pub no_block_twice : (i j : ℕ) → i < j → j < count → get_or after i 0 ≡ get_or after j 0 → ⊥
  pub in_order : (i j : ℕ) → i < j → j < count → ahead memory (get_or after i 0) < ahead memory (get_or after j 0)
  pub none_left_out : (c : ℕ) → AvailableBlock memory c → ahead memory c ≤ ahead memory (get_or after (count - 1) 0)
      → member c (take count after) ≡ true
  pub later : (i : ℕ) → count ≤ i → get_or after i 0 ≡ get_or list i 0

abbrev pub ListsFirstMet : Type 0
ListsFirstMet = OfGrant (λ memory s count list b. ListsMet memory count list (allocate_list memory s count list))

-- the value is the first one met
abbrev pub AnswersFirstMet : Type 0
AnswersFirstMet = OfGrant (λ memory s count list b. b ≡ get_or (allocate_list memory s count list) 0 0)

-- a list is a rotation of another one, cut after so many
pub record CutRotation (count : ℕ) (rising listed : List ℕ) : Type 0 where
  pub low : List ℕ
  pub high : List ℕ
  pub parts : rising ≡ low ++ high
  pub rotated : listed ≡ take count (high ++ low)

-- what is listed is such a one of the available blocks, lowest first
abbrev pub ListsRotation : Type 0
ListsRotation = OfGrant (λ memory s count list b. CutRotation count (available memory) (take count (allocate_list memory s count list)))

-- with the cursor at block 0 document 01's rule holds: the lowest ones, rising
abbrev pub LowestFromZero : Type 0
LowestFromZero =
    OfGrant (λ memory s count list b. memory.cursor ≡ 0 → allocate_list memory s count list ≡ take count (available memory) ++ drop count list)

-- ---- the cursor

-- it is behind this block: "0 .. once block m less 1 was the last granted"
pub record Behind (m last cursor : ℕ) : Type 0 where
  pub next : last + 1 < m → cursor ≡ last + 1
  pub anew : last + 1 ≡ m → cursor ≡ 0

-- after an allocate it is behind the last block listed
abbrev pub CursorBehindLast : Type 0
CursorBehindLast =
    OfGrant
    (λ memory s count list b.
    Behind memory.blocks (get_or (allocate_list memory s count list) (count - 1) 0) (allocate_memory memory s count list).cursor)

-- and after an allocate extent behind the extent: "A run from Job 4 sets it too"
abbrev pub CursorBehindExtent : Type 0
CursorBehindExtent =
    (memory : Memory) (s count near : ℕ) (list : List ℕ) (b : ℕ)
    → allocate_extent_answer memory s count near list ≡ Ok b
    → Behind memory.blocks (b + count - 1) (allocate_extent_memory memory s count near list).cursor

-- so allocates carry on: what two list, one after the other, one of both counts together would list
abbrev pub CarriesOn : Type 0
CarriesOn =
    OfGrant
    (λ memory s count list b.
    (t more : ℕ) (other : List ℕ) (c : ℕ)
    → allocate_answer (allocate_memory memory s count list) t more other ≡ Ok c
    → first_met memory (count + more)
    ≡ take count (allocate_list memory s count list) ++ take more (allocate_list (allocate_memory memory s count list) t more other))

-- an open and a crash put it to block 0
abbrev pub CursorAnew : Type 0
CursorAnew =
    (memory : Memory) (disk : List ℕ)
    → ((outcome open_call memory disk).memory.cursor ≡ 0) × ((outcome crash_call memory disk).memory.cursor ≡ 0)

-- whether a work may move it: those, and a grant
unfoldable pub moves_cursor : Work → Pending → Bool
moves_cursor open_work pending = true
moves_cursor crash_work pending = true
moves_cursor store_work pending = false
moves_cursor (begin_work new) pending = false
moves_cursor (change_work s change) pending = (bearing change).grants

-- no other call does: "Dropping or revoking doesn't move it back"
abbrev pub CursorStays : Type 0
CursorStays =
    (call : Call) (memory : Memory) (disk : List ℕ)
    → some_work moves_cursor (works call memory disk) memory disk ≡ false
    → (outcome call memory disk).memory.cursor ≡ memory.cursor
