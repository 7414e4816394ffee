-- What every memory of the program has, valid or not: arrays of the right lengths, and words of 32 bits.
use Prim.Native.Nat.{ℕ, zero, suc, ◌^◌, ◌<◌}
use native.Mathlib.Nat.{not-suc-le-zero, le_of_suc-le-suc}
use native.Mathlib.Omega.{arith}
use mathlib.Core.Path.{◌≡◌, refl}
use mathlib.Core.List.{List, [], ◌∷◌}
use lib.ListN.{length, get_or, replicate}
use mir.Val.{Val}
use denote.Laws.{Is}
use denote.Shadow.{shadow}
use denote.Array.{Array, each}
use denote.Struct.Field.{u32-field, array_field}
use Rattle.bitmap.specs.Sizes.{slot_count, bitmap_words}
use Rattle.bitmap.specs.Bits.{IsBitmap}
use Rattle.model_types.specs.declared.memory.Slot.{Slot}
use Rattle.model_types.specs.declared.memory.Reserve.{Reserve}
use Rattle.model_types.specs.declared.memory.Memory.{Memory}
use Rattle.model_types.specs.Memory.{slot_at, idle_slot, no_reserve, no_reserves}
use Rattle.model_types.specs.Shape.{HasShape}
use Rattle.model_types.specs.contracts.memory.Slot.{the_row as slot_row}
use Rattle.model_types.specs.contracts.memory.Reserve.{the_row as reserve-row}
use Rattle.model_types.specs.contracts.memory.Memory.{the_row as memory-row}

-- two numbers of 32 bits
pub record SmallReserve (reserve : Reserve) : Type 0 where
  pub reservation : reserve.reservation < 2 ^ 32
  pub drawn : reserve.drawn < 2 ^ 32

-- what is reserved for eight slots
pub record ShapedReserves (reserves : List Reserve) : Type 0 where
  pub eight : length reserves ≡ slot_count
  pub small : (s : ℕ) → SmallReserve (get_or reserves s no_reserve)

pub record Shaped (memory : Memory) : Type 0 where
  pub sam : IsBitmap memory.sam.words
  pub «com» : IsBitmap memory.com.words
  pub slots : length memory.slots ≡ slot_count
  pub tam : (s : ℕ) → IsBitmap (slot_at memory s).tam.words
  pub reserves : ShapedReserves memory.reserves

-- and every array of slots
pub record ShapedSlots (slots : List Slot) : Type 0 where
  pub eight : length slots ≡ slot_count
  pub tam : (s : ℕ) → IsBitmap (get_or slots s idle_slot).tam.words

-- zeros are words of 32 bits
pub zeros-small : (n k : ℕ) → get_or {A = ℕ} (replicate n 0) k 0 < 2 ^ 32
zeros-small zero k = omega arith
zeros-small (suc n) zero = omega arith
zeros-small (suc n) (suc k) = zeros-small n k

-- the empty bitmap is a bitmap
pub empty-is : IsBitmap (replicate bitmap_words 0)
empty-is = record { size = refl; small = zeros-small bitmap_words }

-- ---- slots read out of an array

-- an element that is there doesn't go by the default
get_or-there : (slots : List Slot) (s : ℕ) (d e : Slot) → s < length slots → get_or slots s d ≡ get_or slots s e
get_or-there [] s d e l = absurd (not-suc-le-zero l)
get_or-there (slot ∷ slots) zero d e l = refl
get_or-there (slot ∷ slots) (suc s) d e l = get_or-there slots s d e (le_of_suc-le-suc l)

-- the slot that `memory.slots[s]` reads
pub slot_read : (memory : Memory) (d : Slot) (s : ℕ) → Shaped memory → s < slot_count → get_or memory.slots s d ≡ slot_at memory s
slot_read memory d s shape l = get_or-there memory.slots s d idle_slot (omega (arith, shape.slots))

-- the slot that `slots[s]` reads
pub slots_read : (slots : List Slot) (d : Slot) (s : ℕ) → ShapedSlots slots → s < slot_count → get_or slots s d ≡ get_or slots s idle_slot
slots_read slots d s shape l = get_or-there slots s d idle_slot (omega (arith, shape.eight))

-- ---- from what owning a value tells

-- of each word of an array
each-small : (words : List ℕ) (us : List Val) → shadow (each ℕ u32-field.row.own_val words us) → (k : ℕ) → get_or words k 0 < 2 ^ 32
each-small [] us h k = omega arith
each-small (w ∷ ws) [] h k = absurd h
each-small (w ∷ ws) (u ∷ us) h zero = h.0.1
each-small (w ∷ ws) (u ∷ us) h (suc k) = each-small ws us h.1 k

-- of 128 words
pub words-shaped : (words : List ℕ) (vs : List Val) → Is (array_field u32-field bitmap_words).row words vs → IsBitmap words
words-shaped words vs good =
    record { size = good.1.0.1; small = each-small words good.0 good.1.1 }

-- of a slot
pub slot-shaped : (slot : Slot) (vs : List Val) → Is slot_row slot vs → IsBitmap slot.tam.words
slot-shaped slot vs good = words-shaped slot.tam.words _ good.1.1.0.1.1.0

-- of each slot of an array
each-shaped : (slots : List Slot) (us : List Val) → shadow (each Slot slot_row.own_val slots us) → (s : ℕ)
    → IsBitmap (get_or slots s idle_slot).tam.words
each-shaped [] us h s = empty-is
each-shaped (slot ∷ slots) [] h s = absurd h
each-shaped (slot ∷ slots) (u ∷ us) h zero = slot-shaped slot (u ∷ []) h.0
each-shaped (slot ∷ slots) (u ∷ us) h (suc s) = each-shaped slots us h.1 s

-- of an array of slots that is a parameter
each-slot : (slots : List Slot) (us : List Val) → shadow (each Slot slot_row.own_val slots us) → (s : ℕ) → IsBitmap (get_or slots s idle_slot).tam.words
each-slot [] us h s = empty-is
each-slot (slot ∷ slots) [] h s = absurd h
each-slot (slot ∷ slots) (u ∷ us) h zero = slot-shaped slot (u ∷ []) h.0
each-slot (slot ∷ slots) (u ∷ us) h (suc s) = each-slot slots us h.1 s

pub slots-shaped : (slots : List Slot) (vs : List Val) → Is (Array slot_row slot_count) slots vs → ShapedSlots slots
slots-shaped slots vs good = record { eight = good.1.0.1; tam = each-slot slots good.0 good.1.1 }

-- of a reserve
pub reserve-small : (reserve : Reserve) (vs : List Val) → Is reserve-row reserve vs → SmallReserve reserve
reserve-small reserve vs good = record { reservation = good.1.1.0.1; drawn = good.1.1.1.0.1 }

none-small : SmallReserve no_reserve
none-small = record { reservation = omega arith; drawn = omega arith }

-- of an array that is a parameter
each-own-reserve : (reserves : List Reserve) (us : List Val) → shadow (each Reserve reserve-row.own_val reserves us) → (s : ℕ) → SmallReserve (get_or reserves s no_reserve)
each-own-reserve [] us h s = none-small
each-own-reserve (reserve ∷ reserves) [] h s = absurd h
each-own-reserve (reserve ∷ reserves) (u ∷ us) h zero = reserve-small reserve (u ∷ []) h.0
each-own-reserve (reserve ∷ reserves) (u ∷ us) h (suc s) = each-own-reserve reserves us h.1 s

pub reserves-shaped : (reserves : List Reserve) (vs : List Val) → Is (Array reserve-row slot_count) reserves vs → ShapedReserves reserves
reserves-shaped reserves vs good = record { eight = good.1.0.1; small = each-own-reserve reserves good.0 good.1.1 }

-- of one that is a field
pub reserves-field-shaped : (reserves : List Reserve) (vs : List Val) → Is (Array reserve-row slot_count) reserves vs
    → ShapedReserves reserves
reserves-field-shaped reserves vs good =
    reserves-shaped reserves vs good

-- nothing reserved
pub none-shaped : ShapedReserves no_reserves
none-shaped = record { eight = refl; small = all_none slot_count }
  where
    all_none : (n s : ℕ) → SmallReserve (get_or (replicate n no_reserve) s no_reserve)
    all_none zero s = none-small
    all_none (suc n) zero = none-small
    all_none (suc n) (suc s) = all_none n s

-- of a memory. In a proof `c.good.0` is what is to be known of a first parameter
pub shaped : (memory : Memory) (vs : List Val) → Is memory-row memory vs → Shaped memory
shaped memory vs good =
    let slots = good.1.1.1.1.1.1.0 in
    record {
      sam = words-shaped memory.sam.words _ good.1.1.1.1.0.1.1.0;
      «com» = words-shaped memory.com.words _ good.1.1.1.1.1.0.1.1.0;
      slots = slots.1.0.1;
      tam = each-shaped memory.slots slots.0 slots.1.1;
      reserves = reserves-field-shaped memory.reserves _ good.1.1.1.1.1.1.1.0;
    }

-- and so what contracts ask of a memory that is lent
pub has-shape : (memory : Memory) → Shaped memory → HasShape memory
has-shape memory shape =
    record { sam = shape.sam; «com» = shape.com; slots = shape.slots; tam = shape.tam; reserves = shape.reserves.eight }
