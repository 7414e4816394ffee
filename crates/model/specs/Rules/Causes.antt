-- Document 01's table, "Causes of refusal", and the causes that document 02 adds: when each holds, told by the parts of a memory that
-- code tests. The lists that calls share are in CauseLists.antt, what a call tests is in Calls/.
use Rattle.std.specs.Prelude.{ℕ, ◌-◌, Bool, not, ◌&&◌, List, length, leb, ltb, eqb}
use Rattle.bitmap.specs.Sizes.{max_count, blocks_in_range, count_in_range, slot_in_range}
use Rattle.bitmap.specs.Bits.{bit, no_bits_from}
use Rattle.bitmap.specs.Blocks.{is_available}
use Rattle.bitmap.specs.Extents.{starts}
use Rattle.model.specs.Types.{SlotState, Pending, Memory}
use Rattle.model.specs.Rules.Sizes.{disk_words}
use Rattle.model_types.specs.Memory.{is_active, is_precommitted}
use Rattle.model_types.specs.Pending.{is_nothing}
use Rattle.model.specs.Rules.Available.{available}
use Rattle.model.specs.Rules.Disk.{disk_blocks, disk_bitmap, log_valid, parts_match}

-- of a memory's block count, SAM and COM
abbrev pub of_volume : {A : Type 0} → (ℕ → List ℕ → List ℕ → A) → Memory → A
of_volume told memory = told memory.blocks memory.sam.words memory.com.words

-- and a cause that is told by the number of available blocks
abbrev pub of_available : {A : Type 0} → (ℕ → A) → Memory → A
of_available told memory = told (length (available memory))

-- 1, "memory not fit", by whether it is valid
unfoldable pub memory_invalid : Bool → Bool
memory_invalid sound = not sound

-- 2, "medium not 386 words"
unfoldable pub disk_length_wrong : List ℕ → Bool
disk_length_wrong disk = not (eqb (length disk) disk_words)

-- 3, "word 0 not 1 to 4,096"
unfoldable pub disk_blocks_wrong : List ℕ → Bool
disk_blocks_wrong disk = not (blocks_in_range (disk_blocks disk))

-- 4, "a map bit from m on"
unfoldable pub disk_bitmap_wrong : List ℕ → Bool
disk_bitmap_wrong disk = not (no_bits_from (disk_blocks disk) (disk_bitmap disk))

-- 5, "p above W, or among the p entries a number of W or more, numbers not strictly rising, or a bit from m on"
unfoldable pub disk_log_wrong : List ℕ → Bool
disk_log_wrong disk = not (log_valid disk)

-- 6, "words 0 to 129 and the log words written aren't as this memory and its stores done leave them; in recovery .."
-- by the block count, SAM, the SAM that a pending commit makes, the disk and the pending work
unfoldable pub disk_mismatched : ℕ → List ℕ → List ℕ → List ℕ → Pending → Bool
disk_mismatched blocks sam new disk pending = not (parts_match blocks sam new disk pending)

-- 7, "asked m outside 1 to 4,096"
unfoldable pub blocks_out_of_range : ℕ → Bool
blocks_out_of_range blocks = not (blocks_in_range blocks)

-- 9, "no store work in hand"
unfoldable pub nothing_pending : Pending → Bool
nothing_pending pending = is_nothing pending

-- 8, "store work in hand"
unfoldable pub work_pending : Pending → Bool
work_pending pending = not (nothing_pending pending)

-- 10, "seat above 7"
unfoldable pub slot_out_of_range : ℕ → Bool
slot_out_of_range s = not (slot_in_range s)

-- 11, "seat not idle"
unfoldable pub slot_active : SlotState → Bool
slot_active state = is_active state

-- 12, "seat idle"
unfoldable pub slot_inactive : SlotState → Bool
slot_inactive state = not (slot_active state)

-- 13, "seat precommitted"
unfoldable pub slot_precommitted : SlotState → Bool
slot_precommitted state = is_precommitted state

-- 14, "seat not precommitted"
unfoldable pub slot_not_precommitted : SlotState → Bool
slot_not_precommitted state = not (slot_precommitted state)

-- 15, "count outside 1 to 64"
unfoldable pub count_out_of_range : ℕ → Bool
count_out_of_range count = not (count_in_range count)

-- 15 where "a count of 0 passes" (document 02, job 2)
unfoldable pub count_too_large : ℕ → Bool
count_too_large count = ltb max_count count

-- 16, "list shorter than the count"
unfoldable pub list_short : List ℕ → ℕ → Bool
list_short list count = ltb (length list) count

-- 17, "fewer grantable blocks than the count"
unfoldable pub too_few_available : ℕ → ℕ → Bool
too_few_available available count = ltb available count

-- 18, "block m or above"
unfoldable pub block_out_of_range : ℕ → ℕ → Bool
block_out_of_range blocks b = leb blocks b

-- 19, "SAM 0 there"
unfoldable pub block_free : List ℕ → ℕ → Bool
block_free sam b = not (bit sam b)

-- 20, "SAM 1 and COM 0 there"
unfoldable pub block_freeing : List ℕ → List ℕ → ℕ → Bool
block_freeing sam «com» b = bit sam b && not (bit «com» b)

-- where the extents of so many available blocks start, lowest first
unfoldable pub extent_starts : Memory → ℕ → List ℕ
extent_starts memory count = starts (is_available memory.sam.words memory.com.words) memory.blocks count

-- 22 (document 02, job 4), "if no such run exists"
unfoldable pub no_extent : Memory → ℕ → Bool
no_extent memory count = eqb (length (extent_starts memory count)) 0

-- 23 (document 02, job 7), "if the claims would then exceed the grantable blocks": they would add up to so much
unfoldable pub over_reserved : ℕ → ℕ → Bool
over_reserved available total = ltb available total

-- 24 (job 7), "if a grant would leave fewer grantable blocks than the other seats' claims add up to": so much is reserved for them
unfoldable pub reserved_for_others : ℕ → ℕ → ℕ → Bool
reserved_for_others available count reserved = ltb (available - count) reserved
