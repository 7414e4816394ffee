-- What is reserved and drawn against what is available and taken, where the memory changes.
use Prim.Native.Nat.{ℕ, zero, suc, ◌+◌, ◌≤◌, ◌<◌, zero-le}
use native.Mathlib.Nat.{le_refl}
use native.Mathlib.Decide.{ℕ_discrete}
use native.Mathlib.Omega.{arith}
use mathlib.Core.Path.{◌≡◌, refl, sym, ap, ◌∙◌, subst}
use mathlib.Core.Bool.{Bool, true, false, not, cond, xor, ◌&&◌}
use mathlib.Core.List.{List, []}
use lib.ListN.{length, get_or, replicate}
use Rattle.bitmap.specs.Sizes.{max_blocks, slot_count}
use Rattle.bitmap.specs.Bits.{bit, no_bits_from}
use Rattle.bitmap.specs.Blocks.{is_available, available_blocks, from, member}
use Rattle.bitmap.proofs.Laws.Bits.{bit-empty}
use Rattle.bitmap.proofs.Laws.Blocks.{from-same, from-skip, from_end, from-length}
use Rattle.bitmap.proofs.Laws.Count.{count-more, count-disjoint}
use Rattle.model.specs.Types.{Bitmap, Slot, Reserve, Memory}
use Rattle.model_types.specs.Memory.{slot_at, reserve_at, no_reserve, no_reserves, empty_bitmap, is_active, sam_bit, tam_bit, with_com, with_slot, with_reserves}
use Rattle.model.specs.Rules.Available.{available}
use Rattle.model.specs.Rules.Reserves.{total_reserved}
use Rattle.model.specs.Rules.Touched.{touched, took, taken_blocks}
use Rattle.model.specs.Rules.Valid.{same_words, slot_valid}
use Rattle.model.proofs.Laws.Memory.Fields.{slot_same, slot-other}
use Rattle.model.proofs.Laws.Disk.Writes.{and_second, same-words}
use Rattle.model.proofs.Laws.Memory.Reserves.{total-split}
use Rattle.model.proofs.Laws.Memory.Valid.{ReservesFit, ValidParts, all_slots-at, idle-valid}

abbrev pub available_in : Memory → ℕ → Bool
available_in memory = is_available memory.sam.words memory.com.words

-- a block is taken where TAM is 1 and SAM is 0
pub took-is : (memory : Memory) (slot : Slot) (b : ℕ) → took memory slot b ≡ (tam_bit slot b && not (sam_bit memory b))
unfolding took touched xor
took-is memory slot b = go (tam_bit slot b) (sam_bit memory b)
  where
    go : (t s : Bool) → (xor t s && not s) ≡ (t && not s)
    go true true = refl
    go true false = refl
    go false true = refl
    go false false = refl

-- ---- two memories of one volume

module _ (memory other : Memory) (volume : other.blocks ≡ memory.blocks) where
  -- one in which the blocks of a list are no more available, but all others that were
  pub fewer-available : (blocks : List ℕ)
      → ((b : ℕ) → b < memory.blocks → cond (available_in memory b) 1 0 ≤ cond (member b blocks) 1 0 + cond (available_in other b) 1 0)
      → length (available memory) ≤ length (available other) + length blocks
  unfolding available available_blocks
  fewer-available blocks few = rw volume (count-more (available_in memory) (available_in other) blocks memory.blocks few)

  -- one in which all are that were
  pub as-available : ((b : ℕ) → b < memory.blocks → available_in memory b ≡ true → available_in other b ≡ true)
      → length (available memory) ≤ length (available other)
  unfolding member
  as-available still = omega (arith, fewer-available [] (λ b h. go b h (available_in memory b) refl))
    where
      go : (b : ℕ) → b < memory.blocks → (t : Bool) → available_in memory b ≡ t → cond t 1 0 ≤ 0 + cond (available_in other b) 1 0
      go b h true e = rw (still b h e) (omega arith)
      go b h false e = omega arith

  -- one in which those are too that a slot took
  pub more-available : (s : ℕ)
      → ((b : ℕ) → b < memory.blocks → cond (available_in memory b) 1 0 + cond (took memory (slot_at memory s) b) 1 0 ≤ cond (available_in other b) 1 0)
      → length (available memory) + length (taken_blocks memory s) ≤ length (available other)
  unfolding available available_blocks taken_blocks
  more-available s more = rw volume (count-disjoint (available_in memory) (took memory (slot_at memory s)) (available_in other) memory.blocks more)

  -- one in which a slot took the same
  pub as-taken : (t : ℕ) → ((b : ℕ) → b < memory.blocks → took other (slot_at other t) b ≡ took memory (slot_at memory t) b)
      → length (taken_blocks other t) ≡ length (taken_blocks memory t)
  unfolding taken_blocks
  as-taken t same =
      ap (λ (m : ℕ). length (from (took other (slot_at other t)) m 0)) volume
      ∙ ap {B = ℕ} length (from-same (took other (slot_at other t)) (took memory (slot_at memory t)) memory.blocks 0 (λ b l h. same b h))

-- ---- a slot that took nothing

pub none-taken : (memory : Memory) (s : ℕ) → ((b : ℕ) → took memory (slot_at memory s) b ≡ false) → length (taken_blocks memory s) ≡ 0
unfolding taken_blocks
none-taken memory s none =
    ap {B = ℕ} length
    (from-skip (took memory (slot_at memory s)) memory.blocks 0 memory.blocks zero-le (λ b l h. none b)
    ∙ from_end (took memory (slot_at memory s)) memory.blocks memory.blocks (le_refl memory.blocks))

module _ (memory : Memory) (s : ℕ) (parts : ValidParts memory) (idle : is_active (slot_at memory s).state ≡ false) where
  idle-words : (slot_at memory s).tam.words ≡ empty_bitmap.words
  unfolding slot_valid
  idle-words =
      same-words (slot_at memory s).tam.words empty_bitmap.words
      (ap (λ (t : Bool). cond t true (same_words (slot_at memory s).tam.words empty_bitmap.words)) (sym idle)
      ∙ and_second (no_bits_from memory.blocks (slot_at memory s).tam.words) _
      (all_slots-at (slot_valid memory.blocks) memory.slots s (idle-valid memory.blocks) parts.slots_valid))

  -- it took none
  idle-taken : length (taken_blocks memory s) ≡ 0
  idle-taken =
      none-taken memory s
      (λ b.
      took-is memory (slot_at memory s) b
      ∙ ap (λ (t : Bool). t && not (sam_bit memory b)) (ap (λ (words : List ℕ). bit words b) idle-words ∙ bit-empty b))

  -- so it has drawn nothing
  pub idle-drawn : s < slot_count → (reserve_at memory s).drawn ≡ 0
  idle-drawn below = omega (arith, parts.reserves_fit.drawn s below, idle-taken)

-- ---- one slot changed, COM, and what is reserved

module _ (memory : Memory) (s : ℕ) (slot : Slot) («com» : Bitmap) (reserves : List Reserve) where
  abbrev pub changed : Memory
  changed = with_reserves (with_slot (with_com memory «com») s slot) reserves

  -- another slot took what it had
  other-taken : (t : ℕ) → (t ≡ s → ⊥) → length (taken_blocks changed t) ≡ length (taken_blocks memory t)
  unfolding taken_blocks took touched
  other-taken t n = ap {B = ℕ} (λ (x : Slot). length (from (took memory x) memory.blocks 0)) (slot-other memory s slot t n)

  -- and the slot itself what its new bitmap says
  own-taken : s < length memory.slots → length (taken_blocks changed s) ≡ length (from (took memory slot) memory.blocks 0)
  unfolding taken_blocks took touched
  own-taken there = ap {B = ℕ} (λ (x : Slot). length (from (took memory x) memory.blocks 0)) (slot_same memory s slot there)

  -- so it fits if what is reserved in all does, and what this slot has drawn
  pub changed-fits : ValidParts memory
      → s < length memory.slots
      → ((t : ℕ) → (t ≡ s → ⊥) → get_or reserves t no_reserve ≡ reserve_at memory t)
      → total_reserved reserves ≤ length (available changed)
      → (s < slot_count → (get_or reserves s no_reserve).drawn ≤ length (from (took memory slot) memory.blocks 0))
      → ReservesFit changed
  changed-fits parts there kept total own = record { total = total; drawn = λ t h. go t h (ℕ_discrete t s) }
    where
      go : (t : ℕ) → t < slot_count → Dec (t ≡ s) → (get_or reserves t no_reserve).drawn ≤ length (taken_blocks changed t)
      go t h (yes e) =
          subst (λ (x : ℕ). (get_or reserves x no_reserve).drawn ≤ length (taken_blocks changed x)) (sym e)
          (omega (arith, own (omega (arith, h, e)), own-taken there))
      go t h (no n) =
          omega (arith, ap {B = ℕ} (λ (x : Reserve). x.drawn) (kept t n), parts.reserves_fit.drawn t h, other-taken t n)

-- ---- nothing reserved

none-drawn : (n s : ℕ) {k : ℕ} → (get_or (replicate n no_reserve) s no_reserve).drawn ≤ k
none-drawn zero s = zero-le
none-drawn (suc n) zero = zero-le
none-drawn (suc n) (suc s) = none-drawn n s

-- it always fits
pub none-fits : (memory : Memory) → memory.reserves ≡ no_reserves → ReservesFit memory
unfolding total_reserved
none-fits memory none =
    record {
      total = omega (arith, ap total_reserved none);
      drawn = λ s h. omega (arith, ap (λ (reserves : List Reserve). (get_or reserves s no_reserve).drawn) none, none-drawn slot_count s {k = 0});
    }

-- ---- neither number is above the blocks that a volume can have

module _ (memory : Memory) (s : ℕ) (parts : ValidParts memory) where
  pub few-reserved : (reserve_at memory s).reservation ≤ max_blocks
  unfolding available available_blocks
  few-reserved =
      omega (
        arith,
        total-split memory.reserves s,
        parts.reserves_fit.total,
        from-length (available_in memory) memory.blocks 0,
        parts.few_blocks,
      )

  pub few-drawn : s < slot_count → (reserve_at memory s).drawn ≤ max_blocks
  unfolding taken_blocks
  few-drawn below =
      omega (
        arith,
        parts.reserves_fit.drawn s below,
        from-length (took memory (slot_at memory s)) memory.blocks 0,
        parts.few_blocks,
      )
