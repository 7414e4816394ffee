-- A commit that changes no word of SAM leaves the other slots as they are, and what is reserved.
use Prim.Native.Nat.{ℕ, zero, suc, ◌≤◌, ◌<◌}
use native.Mathlib.Omega.{arith}
use mathlib.Core.Path.{◌≡◌, refl, sym, ap, ap₂, ◌∙◌}
use mathlib.Core.Bool.{Bool, true, false, not, cond, xor, ◌&&◌}
use mathlib.Core.List.{List, [], ◌∷◌, map}
use lib.ListN.{length, get_or, set}
use Rattle.std.proofs.lemmas.List.{set-get_or}
use Rattle.bitmap.specs.Sizes.{slot_count}
use Rattle.bitmap.specs.Bits.{bit, bitmap_of, no_bits_from, IsBitmap}
use Rattle.bitmap.proofs.Laws.Bits.{bitmap_of-bit, bitmap_of-same}
use Rattle.model_types.specs.declared.memory.Slot.{Slot}
use Rattle.model_types.specs.declared.memory.Reserve.{Reserve}
use Rattle.bitmap.specs.declared.Bitmap.{Bitmap}
use Rattle.model_types.specs.declared.memory.Pending.{Pending}
use Rattle.model_types.specs.declared.memory.Pending.TheVariants.{Nothing}
use Rattle.model_types.specs.declared.memory.Memory.{Memory}
use Rattle.model_types.specs.Memory.{bitmap, with_tam, slot_at, idle_slot, reserve_at, reserve_of, no_reserve, with_slot, with_slots, with_sam, with_reserves, with_pending, sam_bit, is_active}
use Rattle.model.specs.Rules.Reserves.{used_up}
use Rattle.model.specs.Rules.Touched.{taken_blocks}
use Rattle.model.specs.Rules.Stores.{changes}
use Rattle.model.specs.Rules.Commit.{committed_sam, refreshed, committed}
use Rattle.model.proofs.Laws.Disk.Writes.{no-changes}
use Rattle.model.proofs.Laws.Memory.Valid.{ValidParts, slot-below}
use Rattle.model.proofs.Laws.Memory.Fit.{took-is, none-taken}
use Rattle.model.proofs.Laws.Touched.Touches.{xor_self}
use Rattle.model_types.specs.Shape.{HasShape}

-- ---- lists

-- a function that leaves each slot leaves the list
map_same : (f : Slot → Slot) (slots : List Slot) → ((t : ℕ) → f (get_or slots t idle_slot) ≡ get_or slots t idle_slot) → map f slots ≡ slots
map_same f [] h = refl
map_same f (slot ∷ slots) h = ap₂ ◌∷◌ (h zero) (map_same f slots (λ t. h (suc t)))

-- ---- slots

-- nothing to take where SAM stays
refreshed-same : (memory : Memory) (slot : Slot) → memory.blocks ≤ 4096 → IsBitmap slot.tam.words → no_bits_from memory.blocks slot.tam.words ≡ true
    → refreshed memory memory.sam slot ≡ slot
unfolding refreshed
refreshed-same memory slot few is below = go (is_active slot.state)
  where
    bits : ℕ → Bool
    bits b = cond (xor (sam_bit memory b) (sam_bit memory b)) (sam_bit memory b) (bit slot.tam.words b)

    same : bitmap_of memory.blocks bits ≡ slot.tam.words
    same =
        bitmap_of-same memory.blocks bits (bit slot.tam.words)
        (λ b h. ap (λ (t : Bool). cond t (sam_bit memory b) (bit slot.tam.words b)) (xor_self (sam_bit memory b)))
        ∙ bitmap_of-bit memory.blocks slot.tam.words few is below

    go : (t : Bool) → cond t (with_tam slot (bitmap (bitmap_of memory.blocks bits))) slot ≡ slot
    go true = ap (λ (words : List ℕ). with_tam slot (bitmap words)) same
    go false = refl

-- ---- what is reserved

-- a slot whose bitmap is SAM took nothing, so it has drawn nothing that could be used up
nothing-used : (memory : Memory) (s : ℕ) → ValidParts memory → s < slot_count → memory.sam.words ≡ (slot_at memory s).tam.words
    → memory.reserves ≡ set memory.reserves s (used_up (reserve_at memory s))
unfolding used_up
nothing-used memory s parts below same =
    let none : length (taken_blocks memory s) ≡ 0 =
    none-taken memory s (λ b. took-is memory (slot_at memory s) b ∙ ap (λ (words : List ℕ). bit words b && not (sam_bit memory b)) (sym same) ∙ go (sam_bit memory b)) in
    let undrawn : (reserve_at memory s).drawn ≡ 0 = omega (arith, parts.reserves_fit.drawn s below, none) in
    sym (set-get_or memory.reserves s no_reserve) ∙ ap (λ (drawn : ℕ). set memory.reserves s (reserve_of (reserve_at memory s).reservation drawn)) undrawn
  where
    go : (t : Bool) → (t && not t) ≡ false
    go true = refl
    go false = refl

-- the memory that such a commit leaves, with nothing pending
pub unchanged-committed : (memory : Memory) (s : ℕ) → HasShape memory → ValidParts memory → s < slot_count → memory.pending ≡ Nothing
    → committed_sam memory s ≡ (slot_at memory s).tam → length (changes memory.sam.words (slot_at memory s).tam.words) ≡ 0
    → with_slot memory s idle_slot ≡ committed memory s
unfolding committed
unchanged-committed memory s shape parts below nothing made none =
    let same = no-changes memory.sam.words (slot_at memory s).tam.words (shape.sam.size ∙ sym (shape.tam s).size) none in
    let sam = made ∙ ap bitmap (sym same) in
    ap (λ (reserves : List Reserve). with_reserves (with_slot memory s idle_slot) reserves) (nothing-used memory s parts below same)
    ∙ ap₂ (λ (slots : List Slot) (pending : Pending). with_pending (with_reserves (with_slots memory (set slots s idle_slot)) used) pending)
    (sym (map_same (refreshed memory memory.sam) memory.slots (λ t. refreshed-same memory (slot_at memory t) parts.few_blocks (shape.tam t) (slot-below memory t parts))))
    nothing
    ∙ ap
    (λ (new : Bitmap). with_pending (with_reserves (with_slots (with_sam memory new) (set (map (refreshed memory new) memory.slots) s idle_slot)) used) Nothing)
    (sym sam)
  where
    used : List Reserve
    used = set memory.reserves s (used_up (reserve_at memory s))
