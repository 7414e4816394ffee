-- What a valid memory is, part by part.
use Prim.Native.Nat.{ℕ, zero, suc, ◌-◌, ◌*◌, ◌≤◌, ◌<◌}
use native.Mathlib.Omega.{arith}
use mathlib.Core.Path.{◌≡◌, refl, ap}
use mathlib.Core.Bool.{Bool, true, cond, xor, ◌&&◌, false≢true}
use mathlib.Core.List.{List, [], ◌∷◌}
use lib.ListN.{length, get_or, replicate, get_or-replicate}
use lib.Pow.{pow_pos}
use lib.Dec.{leb, ltb, eqb}
use borrow.Author.Tests.{eqb-true, leb-true, le-leb, ltb-true, lt-ltb}
use Rattle.bitmap.specs.Sizes.{max_blocks, bitmap_words, slot_count, blocks_in_range}
use Rattle.bitmap.specs.Bits.{no_bits_from}
use Rattle.bitmap.proofs.Laws.Bits.{no_bits-all}
use Rattle.bitmap.proofs.Laws.Blocks.{all_below-at, all_below-all}
use Rattle.model.specs.Types.{Slot, Memory}
use Rattle.model_types.specs.Memory.{slot_at, reserve_at, idle_slot, is_active, sam_bit, com_bit}
use Rattle.model.specs.Rules.Available.{available}
use Rattle.model.specs.Rules.Reserves.{total_reserved}
use Rattle.model.specs.Rules.Touched.{touched, taken_blocks}
use Rattle.model.specs.Rules.Valid.{all_slots, slot_valid, touches, touches_agree, reservations_fit, drawn_fit, pending_valid, valid}
use Rattle.model.proofs.Laws.Disk.Writes.{and_both, and_first, and_second, words_same}
use Rattle.model.proofs.Laws.Disk.Parts.{blocks-in_range, in_range-low, in_range-high}

-- what is reserved is available, and no slot has drawn more than it took
pub record ReservesFit (memory : Memory) : Type 0 where
  pub total : total_reserved memory.reserves ≤ length (available memory)
  pub drawn : (s : ℕ) → s < slot_count → (reserve_at memory s).drawn ≤ length (taken_blocks memory s)

pub record ValidParts (memory : Memory) : Type 0 where
  pub some_blocks : 1 ≤ memory.blocks
  pub few_blocks : memory.blocks ≤ max_blocks
  pub cursor_below : memory.cursor < memory.blocks
  pub sam_below : no_bits_from memory.blocks memory.sam.words ≡ true
  pub com_below : no_bits_from memory.blocks memory.com.words ≡ true
  pub slots_valid : all_slots (slot_valid memory.blocks) memory.slots ≡ true
  pub touches_fit : touches_agree memory ≡ true
  pub reserves_fit : ReservesFit memory
  pub pending_fits : pending_valid memory memory.pending ≡ true

-- the clauses up to the slots' touches, one after the other: the block count and the cursor, SAM, COM, the slots
abbrev pub head_valid : Memory → Bool
head_valid memory = blocks_in_range memory.blocks && ltb memory.cursor memory.blocks

abbrev sam_valid : Memory → Bool
sam_valid memory = head_valid memory && no_bits_from memory.blocks memory.sam.words

abbrev com_valid : Memory → Bool
com_valid memory = sam_valid memory && no_bits_from memory.blocks memory.com.words

abbrev all_valid : Memory → Bool
all_valid memory = com_valid memory && all_slots (slot_valid memory.blocks) memory.slots

pub fit_parts : (memory : Memory) → reservations_fit memory ≡ true → drawn_fit memory ≡ true → ReservesFit memory
unfolding reservations_fit drawn_fit
fit_parts memory e f =
    record {
      total = leb-true (total_reserved memory.reserves) (length (available memory)) e;
      drawn = λ s h.
          leb-true (reserve_at memory s).drawn (length (taken_blocks memory s))
          (all_below-at slot_count (λ t. leb (reserve_at memory t).drawn (length (taken_blocks memory t))) s f h);
    }

pub parts-fit : (memory : Memory) → ReservesFit memory → (reservations_fit memory ≡ true) × (drawn_fit memory ≡ true)
unfolding reservations_fit drawn_fit
parts-fit memory fit = (
  le-leb (total_reserved memory.reserves) (length (available memory)) fit.total,
  all_below-all slot_count (λ t. leb (reserve_at memory t).drawn (length (taken_blocks memory t)))
      (λ s h. le-leb (reserve_at memory s).drawn (length (taken_blocks memory s)) (fit.drawn s h)),
)

pub valid-parts : (memory : Memory) → valid memory ≡ true → ValidParts memory
unfolding valid
valid-parts memory e =
    let e7 = and_first _ (pending_valid memory memory.pending) e in
    let e6 = and_first _ (drawn_fit memory) e7 in
    let e5 = and_first _ (reservations_fit memory) e6 in
    let e4 = and_first _ (touches_agree memory) e5 in
    let e3 = and_first _ (all_slots (slot_valid memory.blocks) memory.slots) e4 in
    let e2 = and_first _ (no_bits_from memory.blocks memory.com.words) e3 in
    let e1 = and_first _ (no_bits_from memory.blocks memory.sam.words) e2 in
    let e0 = and_first _ (ltb memory.cursor memory.blocks) e1 in
    record {
      some_blocks = in_range-low memory.blocks e0;
      few_blocks = in_range-high memory.blocks e0;
      cursor_below = ltb-true memory.cursor memory.blocks (and_second (blocks_in_range memory.blocks) _ e1);
      sam_below = and_second (head_valid memory) _ e2;
      com_below = and_second (sam_valid memory) _ e3;
      slots_valid = and_second (com_valid memory) _ e4;
      touches_fit = and_second (all_valid memory) _ e5;
      reserves_fit =
          fit_parts memory
          (and_second (all_valid memory && touches_agree memory) _ e6)
          (and_second (all_valid memory && touches_agree memory && reservations_fit memory) _ e7);
      pending_fits = and_second (all_valid memory && touches_agree memory && reservations_fit memory && drawn_fit memory) _ e;
    }

-- what holds of every slot holds of slot s, if it holds of an idle one
pub all_slots-at : (test : Slot → Bool) (slots : List Slot) (s : ℕ) → test idle_slot ≡ true → all_slots test slots ≡ true → test (get_or slots s idle_slot) ≡ true
unfolding all_slots
all_slots-at test [] s i e = i
all_slots-at test (slot ∷ slots) zero i e = and_first (test slot) _ e
all_slots-at test (slot ∷ slots) (suc s) i e = all_slots-at test slots s i (and_second (test slot) _ e)

-- a block that COM and SAM agree on is touched by no active slot; where they differ, by just one
pub touches_at : (memory : Memory) (b : ℕ)
    → touches_agree memory ≡ true → b < memory.blocks → touches memory b memory.slots ≡ cond (xor (sam_bit memory b) (com_bit memory b)) 1 0
unfolding touches_agree
touches_at memory b e h =
    eqb-true
    (touches memory b memory.slots)
    (cond (xor (sam_bit memory b) (com_bit memory b)) 1 0)
    (all_below-at memory.blocks (λ x. eqb (touches memory x memory.slots) (cond (xor (sam_bit memory x) (com_bit memory x)) 1 0)) b e h)

-- whether slot s, being active, has touched block b
abbrev pub touches_block : Memory → Slot → ℕ → Bool
touches_block memory slot b = is_active slot.state && touched memory slot b

-- a slot that has touched a block is counted
pub touches-one : (memory : Memory) (b : ℕ) (slots : List Slot) (s : ℕ) → touches_block memory (get_or slots s idle_slot) b ≡ true → 1 ≤ touches memory b slots
unfolding touches
touches-one memory b [] s e = absurd (false≢true e)
touches-one memory b (slot ∷ slots) zero e = rw e (omega arith)
touches-one memory b (slot ∷ slots) (suc s) e =
    let ih : 1 ≤ touches memory b slots = touches-one memory b slots s e in omega arith

-- and so are two
pub touches-two : (memory : Memory) (b : ℕ) (slots : List Slot) (s t : ℕ)
    → (s ≡ t → ⊥)
    → touches_block memory (get_or slots s idle_slot) b ≡ true
    → touches_block memory (get_or slots t idle_slot) b ≡ true
    → 2 ≤ touches memory b slots
unfolding touches
touches-two memory b [] s t n e f = absurd (false≢true e)
touches-two memory b (slot ∷ slots) zero zero n e f = absurd (n refl)
touches-two memory b (slot ∷ slots) zero (suc t) n e f =
    let one : 1 ≤ touches memory b slots = touches-one memory b slots t f in rw e (omega arith)
touches-two memory b (slot ∷ slots) (suc s) zero n e f =
    let one : 1 ≤ touches memory b slots = touches-one memory b slots s e in rw f (omega arith)
touches-two memory b (slot ∷ slots) (suc s) (suc t) n e f =
    let ih : 2 ≤ touches memory b slots = touches-two memory b slots s t (λ q. n (ap suc q)) e f in omega arith

-- the empty bitmap has no bits
pub no_bits-empty : (blocks : ℕ) → no_bits_from blocks (replicate bitmap_words 0) ≡ true
no_bits-empty blocks =
    no_bits-all blocks (replicate bitmap_words 0) (λ k h. rw (get_or-replicate {A = ℕ} bitmap_words k 0 0 h) (pow_pos (blocks - 32 * k)))

-- an idle slot is valid
pub idle-valid : (blocks : ℕ) → slot_valid blocks idle_slot ≡ true
unfolding slot_valid
idle-valid blocks = and_both (no_bits-empty blocks) (words_same (replicate bitmap_words 0))

slot-valid-below : (blocks : ℕ) (slot : Slot) → slot_valid blocks slot ≡ true → no_bits_from blocks slot.tam.words ≡ true
unfolding slot_valid
slot-valid-below blocks slot e = and_first (no_bits_from blocks slot.tam.words) _ e

-- no slot of a valid memory has bits from m on
pub slot-below : (memory : Memory) (s : ℕ) → ValidParts memory → no_bits_from memory.blocks (slot_at memory s).tam.words ≡ true
slot-below memory s parts =
    slot-valid-below memory.blocks (slot_at memory s)
    (all_slots-at (slot_valid memory.blocks) memory.slots s (idle-valid memory.blocks) parts.slots_valid)

-- the parts make a memory valid
pub parts-valid : (memory : Memory) → ValidParts memory → valid memory ≡ true
unfolding valid
parts-valid memory parts =
    let fit = parts-fit memory parts.reserves_fit in
    and_both
    (and_both
    (and_both
    (and_both
    (and_both (and_both (and_both head-is parts.sam_below) parts.com_below) parts.slots_valid)
    parts.touches_fit)
    fit.0)
    fit.1)
    parts.pending_fits
  where
    head-is : head_valid memory ≡ true
    head-is =
        and_both (blocks-in_range memory.blocks parts.some_blocks parts.few_blocks)
        (lt-ltb memory.cursor memory.blocks parts.cursor_below)
