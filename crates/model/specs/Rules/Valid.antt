-- Valid memory (document 01: fit), every clause of it.
use Rattle.std.specs.Prelude.{ℕ, ◌+◌, Bool, true, false, not, cond, ◌&&◌, List, [], ◌∷◌, length, leb, ltb, eqb}
use Rattle.std.specs.Bool.{xor}
use Rattle.bitmap.specs.Sizes.{slot_count, blocks_in_range}
use Rattle.bitmap.specs.Bits.{no_bits_from}
use Rattle.bitmap.specs.Blocks.{all_below}
use Rattle.model.specs.Types.{Slot, Pending, Nothing, Commit, Recovery, Memory}
use Rattle.model_types.specs.Memory.{slot_at, reserve_at, is_active, is_precommitted, sam_bit, com_bit, empty_bitmap, volume_words}
use Rattle.model.specs.Rules.Available.{available}
use Rattle.model.specs.Rules.Reserves.{total_reserved}
use Rattle.model.specs.Rules.Commit.{changed_of, commit_due}
use Rattle.model.specs.Rules.Touched.{touched, taken_blocks}

-- whether two lists of words are the same
unfoldable pub same_words : List ℕ → List ℕ → Bool
same_words [] [] = true
same_words [] (y ∷ ys) = false
same_words (x ∷ xs) [] = false
same_words (x ∷ xs) (y ∷ ys) = eqb x y && same_words xs ys

-- whether a test holds of every slot
unfoldable pub all_slots : (Slot → Bool) → List Slot → Bool
all_slots test [] = true
all_slots test (slot ∷ slots) = test slot && all_slots test slots

-- "no map has bits from m on, an idle seat's map is empty"
unfoldable pub slot_valid : ℕ → Slot → Bool
slot_valid blocks slot =
    no_bits_from blocks slot.tam.words
    && cond (is_active slot.state) true (same_words slot.tam.words empty_bitmap.words)

-- how many of the slots that aren't idle have touched a block
unfoldable pub touches : Memory → ℕ → List Slot → ℕ
touches memory b [] = 0
touches memory b (slot ∷ slots) = cond (is_active slot.state && touched memory slot b) 1 0 + touches memory b slots

-- "where COM equals SAM, no seat that isn't idle has touched the block; where they differ, just one has"
unfoldable pub touches_agree : Memory → Bool
touches_agree memory = all_below memory.blocks (λ b. eqb (touches memory b memory.slots) (cond (xor (sam_bit memory b) (com_bit memory b)) 1 0))

-- document 02, job 7: "In a fit memory all claims add up to no more than the grantable blocks"
unfoldable pub reservations_fit : Memory → Bool
reservations_fit memory = leb (total_reserved memory.reserves) (length (available memory))

-- "and no seat has used more than it took"
unfoldable pub drawn_fit : Memory → Bool
drawn_fit memory = all_below slot_count (λ s. leb (reserve_at memory s).drawn (length (taken_blocks memory s)))

-- "during recovery all seats are idle, COM equals SAM"
unfoldable pub is_quiet : Memory → Bool
is_quiet memory = all_slots (λ slot. not (is_active slot.state)) memory.slots && same_words memory.com.words memory.sam.words

-- "a commit in hand belongs to a precommitted seat with d of at least 1 and stores due 3·d + 2; during recovery all seats
-- are idle, COM equals SAM and stores due are 2 to W + 1; stores done are fewer than stores due"
unfoldable pub pending_valid : Memory → Pending → Bool
pending_valid memory Nothing = true
pending_valid memory (Commit s done due) =
    is_precommitted (slot_at memory s).state
    && leb 1 (changed_of memory s)
    && eqb due (commit_due memory s)
    && ltb done due
pending_valid memory (Recovery done due) = is_quiet memory && leb 2 due && leb due (volume_words memory + 1) && ltb done due

-- "Memory is fit if ...". Document 02, job 6: the block to be searched first is "below m to be fit"; job 7: the claims fit
unfoldable pub valid : Memory → Bool
valid memory =
    blocks_in_range memory.blocks
    && ltb memory.cursor memory.blocks
    && no_bits_from memory.blocks memory.sam.words
    && no_bits_from memory.blocks memory.com.words
    && all_slots (slot_valid memory.blocks) memory.slots
    && touches_agree memory
    && reservations_fit memory
    && drawn_fit memory
    && pending_valid memory memory.pending
