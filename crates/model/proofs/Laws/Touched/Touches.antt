-- How many slots have touched a block when one slot changes, and when the memory after it is valid.
use Prim.Native.Nat.{ℕ, zero, suc, ◌+◌, ◌<◌}
use native.Mathlib.Omega.{arith}
use mathlib.Core.Path.{◌≡◌, refl, sym, ap, ap₂, ◌∙◌, subst}
use mathlib.Core.Bool.{Bool, true, false, cond, xor}
use mathlib.Core.List.{List, [], ◌∷◌, map}
use lib.ListN.{length, get_or, set}
use borrow.Author.Tests.{eq-eqb}
use Rattle.bitmap.specs.Bits.{bit, no_bits_from}
use Rattle.bitmap.proofs.Laws.Blocks.{all_below-all}
use Rattle.model.specs.Types.{Bitmap, Slot, Reserve, Pending, Nothing, Memory}
use Rattle.model_types.specs.Memory.{slot_at, idle_slot, is_active, sam_bit, com_bit, empty_bitmap, with_cursor, with_com, with_slot, with_reserves, with_pending}
use Rattle.model.specs.Rules.Available.{available}
use Rattle.model.specs.Rules.Touched.{touched, took, taken_blocks}
use Rattle.model.specs.Rules.Valid.{same_words, all_slots, slot_valid, touches, touches_agree, pending_valid}
use Rattle.model.proofs.Laws.Memory.Fields.{slots_length, slot_same, slot-other}
use Rattle.model.proofs.Laws.Disk.Writes.{and_both, and_first, and_second}
use Rattle.model.proofs.Laws.Memory.Valid.{ReservesFit, ValidParts, touches_block, touches_at}

-- 1 for true, 0 for false
abbrev pub one : Bool → ℕ
one t = cond t 1 0

pub xor_self : (t : Bool) → xor t t ≡ false
unfolding xor
xor_self true = refl
xor_self false = refl

-- whether COM differs from SAM at a block
abbrev pub differs : Memory → ℕ → Bool
differs memory b = xor (sam_bit memory b) (com_bit memory b)

-- ---- the count

-- slots that have touched a block alike are counted alike
pub touches-same : (memory other : Memory) (b : ℕ) (slots others : List Slot)
    → length slots ≡ length others
    → ((t : ℕ) → touches_block other (get_or others t idle_slot) b ≡ touches_block memory (get_or slots t idle_slot) b)
    → touches other b others ≡ touches memory b slots
unfolding touches
touches-same memory other b [] [] l same = refl
touches-same memory other b [] (y ∷ others) l same = absurd (omega arith)
touches-same memory other b (x ∷ slots) [] l same = absurd (omega arith)
touches-same memory other b (x ∷ slots) (y ∷ others) l same =
    ap₂ (λ (t : Bool) (n : ℕ). one t + n) (same 0) (touches-same memory other b slots others (omega arith) (λ t. same (suc t)))

-- where only slot s has touched it otherwise, the count changes by this slot alone
pub touches-changed : (memory other : Memory) (b s : ℕ) (slots others : List Slot)
    → length slots ≡ length others
    → s < length slots
    → ((t : ℕ) → (t ≡ s → ⊥) → touches_block other (get_or others t idle_slot) b ≡ touches_block memory (get_or slots t idle_slot) b)
    → touches other b others + one (touches_block memory (get_or slots s idle_slot) b)
    ≡ touches memory b slots + one (touches_block other (get_or others s idle_slot) b)
unfolding touches
touches-changed memory other b s [] others l h same = absurd (omega arith)
touches-changed memory other b s (x ∷ slots) [] l h same = absurd (omega arith)
touches-changed memory other b zero (x ∷ slots) (y ∷ others) l h same =
    omega (arith, touches-same memory other b slots others (omega arith) (λ t. same (suc t) (λ e. omega (arith, e))))
touches-changed memory other b (suc s) (x ∷ slots) (y ∷ others) l h same =
    omega (
      arith,
      ap one (same 0 (λ e. omega (arith, e))),
      touches-changed memory other b s slots others (omega arith) (omega arith) (λ t n. same (suc t) (λ e. n (omega (arith, e)))),
    )

-- ---- the slots

pub all_slots-set : (test : Slot → Bool) (slots : List Slot) (s : ℕ) (slot : Slot)
    → test slot ≡ true → all_slots test slots ≡ true → all_slots test (set slots s slot) ≡ true
unfolding all_slots
all_slots-set test [] s slot new e = refl
all_slots-set test (x ∷ slots) zero slot new e = and_both new (and_second (test x) _ e)
all_slots-set test (x ∷ slots) (suc s) slot new e =
    and_both (and_first (test x) _ e) (all_slots-set test slots s slot new (and_second (test x) _ e))

pub all_slots-map : (test : Slot → Bool) (f : Slot → Slot) (slots : List Slot)
    → ((slot : Slot) → test slot ≡ true → test (f slot) ≡ true) → all_slots test slots ≡ true → all_slots test (map f slots) ≡ true
unfolding all_slots
all_slots-map test f [] keeps e = refl
all_slots-map test f (x ∷ slots) keeps e =
    and_both (keeps x (and_first (test x) _ e)) (all_slots-map test f slots keeps (and_second (test x) _ e))

-- an active slot is valid if its bitmap has no bits from m on
pub active-valid : (blocks : ℕ) (slot : Slot) → is_active slot.state ≡ true → no_bits_from blocks slot.tam.words ≡ true → slot_valid blocks slot ≡ true
unfolding slot_valid
active-valid blocks slot active below = and_both below (ap (λ (t : Bool). cond t true (same_words slot.tam.words empty_bitmap.words)) active)

-- ---- the memory

-- a slot's change and the change of SAM and COM go together at a block
abbrev pub Balanced : Memory → Memory → ℕ → ℕ → Type 0
Balanced memory other s b =
    one (touches_block other (slot_at other s) b) + one (differs memory b)
    ≡ one (touches_block memory (slot_at memory s) b) + one (differs other b)

-- then the slots' touches agree with SAM and COM as before
pub balanced-agree : (memory other : Memory) (s : ℕ)
    → ValidParts memory
    → other.blocks ≡ memory.blocks
    → length memory.slots ≡ length other.slots
    → s < length memory.slots
    → ((b : ℕ) → b < memory.blocks → (t : ℕ) → (t ≡ s → ⊥) → touches_block other (slot_at other t) b ≡ touches_block memory (slot_at memory t) b)
    → ((b : ℕ) → b < memory.blocks → Balanced memory other s b)
    → touches_agree other ≡ true
unfolding touches_agree
balanced-agree memory other s parts volume l h others own =
    all_below-all other.blocks _
    (λ b below.
    let inside : b < memory.blocks = omega (arith, volume, below) in
    eq-eqb (touches other b other.slots) (one (differs other b))
    (omega (
      arith,
      touches-changed memory other b s memory.slots other.slots l h (others b inside),
      touches_at memory b parts.touches_fit inside,
      own b inside,
    )))

-- the memory with another slot s, another COM, other reserves that fit and nothing pending is valid
pub touching-valid : (memory : Memory) (s : ℕ) (slot : Slot) («com» : Bitmap) (reserves : List Reserve)
    → ValidParts memory
    → memory.pending ≡ Nothing
    → s < length memory.slots
    → slot_valid memory.blocks slot ≡ true
    → no_bits_from memory.blocks «com».words ≡ true
    → ((b : ℕ)
    → b < memory.blocks
    → one (touches_block memory slot b) + one (differs memory b)
    ≡ one (touches_block memory (slot_at memory s) b) + one (xor (sam_bit memory b) (bit «com».words b)))
    → ReservesFit (with_reserves (with_slot (with_com memory «com») s slot) reserves)
    → ValidParts (with_reserves (with_slot (with_com memory «com») s slot) reserves)
unfolding touched pending_valid
touching-valid memory s slot «com» reserves parts nothing h new below own fit =
    record {
      some_blocks = parts.some_blocks;
      few_blocks = parts.few_blocks;
      cursor_below = parts.cursor_below;
      sam_below = parts.sam_below;
      com_below = below;
      slots_valid = all_slots-set (slot_valid memory.blocks) memory.slots s slot new parts.slots_valid;
      touches_fit =
          balanced-agree memory next s parts refl (sym (slots_length memory s slot)) h
          (λ b inside t n. ap (λ (x : Slot). touches_block memory x b) (slot-other memory s slot t n))
          (λ b inside.
          subst (λ (x : Slot). one (touches_block memory x b) + one (differs memory b) ≡ one (touches_block memory (slot_at memory s) b) + one (differs next b))
          (sym (slot_same memory s slot h))
          (own b inside));
      reserves_fit = fit;
      pending_fits = ap (pending_valid next) nothing;
    }
  where
    next : Memory
    next = with_reserves (with_slot (with_com memory «com») s slot) reserves

-- the same memory to be searched from another of its blocks on, with other reserves that fit and with other valid work pending, is
-- valid
searched-valid : (memory : Memory) (cursor : ℕ) (reserves : List Reserve) (pending : Pending)
    → ValidParts memory
    → cursor < memory.blocks
    → ReservesFit (with_pending (with_reserves (with_cursor memory cursor) reserves) pending)
    → pending_valid (with_pending (with_reserves (with_cursor memory cursor) reserves) pending) pending ≡ true
    → ValidParts (with_pending (with_reserves (with_cursor memory cursor) reserves) pending)
unfolding touches_agree touched
searched-valid memory cursor reserves pending parts below fit valid =
    record {
      some_blocks = parts.some_blocks;
      few_blocks = parts.few_blocks;
      cursor_below = below;
      sam_below = parts.sam_below;
      com_below = parts.com_below;
      slots_valid = parts.slots_valid;
      touches_fit =
          all_below-all memory.blocks _
          (λ b h.
          eq-eqb (touches next b memory.slots) (one (differs memory b))
          (touches-same memory next b memory.slots memory.slots refl (λ t. refl)
          ∙ touches_at memory b parts.touches_fit h));
      reserves_fit = fit;
      pending_fits = valid;
    }
  where
    next : Memory
    next = with_pending (with_reserves (with_cursor memory cursor) reserves) pending

-- the same reserves fit
still-fits : (memory : Memory) (cursor : ℕ) (pending : Pending) → ReservesFit memory → ReservesFit (with_pending (with_cursor memory cursor) pending)
unfolding available taken_blocks took touched
still-fits memory cursor pending fit = record { total = fit.total; drawn = fit.drawn }

-- to be searched from another block on, where nothing is pending
pub cursor-valid : (memory : Memory) (cursor : ℕ) → ValidParts memory → memory.pending ≡ Nothing → cursor < memory.blocks
    → ValidParts (with_cursor memory cursor)
unfolding pending_valid
cursor-valid memory cursor parts nothing below =
    searched-valid memory cursor memory.reserves memory.pending parts below (still-fits memory cursor memory.pending parts.reserves_fit)
    (ap (pending_valid (with_cursor memory cursor)) nothing)

-- with other reserves, where nothing is pending
pub reserves-valid : (memory : Memory) (reserves : List Reserve) → ValidParts memory → memory.pending ≡ Nothing
    → ReservesFit (with_reserves memory reserves)
    → ValidParts (with_reserves memory reserves)
unfolding pending_valid
reserves-valid memory reserves parts nothing fit =
    searched-valid memory memory.cursor reserves memory.pending parts parts.cursor_below fit
    (ap (pending_valid (with_reserves memory reserves)) nothing)

-- with other work pending
pub pending_fits : (memory : Memory) (pending : Pending)
    → ValidParts memory → pending_valid (with_pending memory pending) pending ≡ true → ValidParts (with_pending memory pending)
pending_fits memory pending parts valid =
    searched-valid memory memory.cursor memory.reserves pending parts parts.cursor_below
    (still-fits memory memory.cursor pending parts.reserves_fit)
    valid
