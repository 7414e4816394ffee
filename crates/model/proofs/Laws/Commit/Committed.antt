-- The memory after a commit: its slots one by one, and that it is valid.
use Prim.Native.Nat.{ℕ, ◌+◌, ◌≤◌, ◌<◌}
use native.Mathlib.Decide.{ℕ_discrete}
use native.Mathlib.Omega.{arith}
use mathlib.Core.Path.{◌≡◌, refl, sym, ap, ap₂, ◌∙◌, subst}
use mathlib.Core.Bool.{Bool, true, false, not, cond, xor, ◌&&◌, ◌||◌, false≢true}
use mathlib.Core.List.{List, map}
use lib.ListN.{length, get_or, set, length-set, length-map, get_or-map}
use lib.Seq.{get_or-set_same, get_or-set_other}
use Rattle.bitmap.specs.Sizes.{slot_count}
use Rattle.bitmap.specs.Bits.{bit, no_bits_from, IsBitmap}
use Rattle.bitmap.specs.Blocks.{is_available}
use Rattle.bitmap.proofs.Laws.Bits.{bitmap_of-is, no_bits-bit, no_bits-bitmap_of}
use Rattle.bitmap.proofs.Laws.Blocks.{available-free, available-unused}
use Rattle.model.specs.Types.{Bitmap, Slot, Reserve, Memory}
use Rattle.model_types.specs.Memory.{slot_at, reserve_at, no_reserve, idle_slot, is_active, sam_bit, com_bit, tam_bit, with_tam, volume_bitmap}
use Rattle.model.specs.Rules.Commit.{committed_sam, refreshed, committed}
use Rattle.model.specs.Rules.Reserves.{used_up}
use Rattle.model.specs.Rules.Touched.{touched, taken_blocks}
use Rattle.model.specs.Rules.Valid.{slot_valid, pending_valid}
use Rattle.model.proofs.Laws.Memory.Valid.{ReservesFit, ValidParts, touches_block, idle-valid}
use Rattle.model.proofs.Laws.Memory.Reserves.{total-split, total-set-le, drawn-set-le}
use Rattle.model.proofs.Laws.Memory.Fit.{available_in, took-is, as-available, as-taken, idle-drawn}
use Rattle.model.proofs.Laws.Commit.Commit.{same_or_not, both-differ, touched-differs, committed-bits, refreshed-bits, others-kept}
use Rattle.model.proofs.Laws.Touched.Touches.{one, xor_self, differs, all_slots-set, all_slots-map, active-valid, balanced-agree}

-- the new SAM is a bitmap of the volume
pub committed-bitmap : (memory : Memory) (s : ℕ) → IsBitmap (committed_sam memory s).words
unfolding committed_sam
committed-bitmap memory s = bitmap_of-is memory.blocks _

pub committed-below : (memory : Memory) (s : ℕ) → no_bits_from memory.blocks (committed_sam memory s).words ≡ true
unfolding committed_sam
committed-below memory s = no_bits-bitmap_of memory.blocks _

-- ---- the other slots

-- each is refreshed
pub refreshed-at : (memory : Memory) (new : Bitmap) (s t : ℕ)
    → (t ≡ s → ⊥) → get_or (set (map (refreshed memory new) memory.slots) s idle_slot) t idle_slot ≡ refreshed memory new (slot_at memory t)
unfolding refreshed
refreshed-at memory new s t n =
    get_or-set_other (map (refreshed memory new) memory.slots) s t idle_slot idle_slot n
    ∙ get_or-map (refreshed memory new) memory.slots t idle_slot

cond-state : (t : Bool) (new slot : Slot) → new.state ≡ slot.state → is_active (cond t new slot).state ≡ is_active slot.state
cond-state true new slot e = ap is_active e
cond-state false new slot e = refl

cond-false : (t : Bool) (new slot : Slot) → t ≡ false → cond t new slot ≡ slot
cond-false t new slot e = ap (λ (u : Bool). cond u new slot) e

-- it is active as before
pub refreshed-state : (memory : Memory) (new : Bitmap) (slot : Slot) → is_active (refreshed memory new slot).state ≡ is_active slot.state
unfolding refreshed
refreshed-state memory new slot = cond-state (is_active slot.state) _ slot refl

-- an idle one stays
pub refreshed-idle : (memory : Memory) (new : Bitmap) (slot : Slot) → is_active slot.state ≡ false → refreshed memory new slot ≡ slot
unfolding refreshed
refreshed-idle memory new slot e = cond-false (is_active slot.state) _ slot e

refreshed-valid : (memory : Memory) (new : Bitmap) (slot : Slot)
    → slot_valid memory.blocks slot ≡ true → slot_valid memory.blocks (refreshed memory new slot) ≡ true
unfolding refreshed
refreshed-valid memory new slot e = go (is_active slot.state) refl _
  where
    go : (t : Bool) → is_active slot.state ≡ t → (bits : ℕ → Bool) → slot_valid memory.blocks (cond t (with_tam slot (volume_bitmap memory bits)) slot) ≡ true
    go true active bits = active-valid memory.blocks (with_tam slot (volume_bitmap memory bits)) active (no_bits-bitmap_of memory.blocks bits)
    go false idle bits = e

-- ---- the memory

-- two bits differ as two others do if each way they differ is the same
same-differ : (a b x y : Bool) → (a && not b) ≡ (x && not y) → (b && not a) ≡ (y && not x) → xor a b ≡ xor x y
unfolding xor
same-differ a b x y p q = sym (either a b) ∙ ap₂ ◌||◌ p q ∙ either x y
  where
    either : (u v : Bool) → ((u && not v) || (v && not u)) ≡ xor u v
    either true true = refl
    either true false = refl
    either false true = refl
    either false false = refl

module _ (memory : Memory) (s : ℕ) (parts : ValidParts memory) (h : s < length memory.slots) (active : is_active (slot_at memory s).state ≡ true) where
  -- its own slot is idle
  pub own-idle : slot_at (committed memory s) s ≡ idle_slot
  unfolding committed
  own-idle =
      let refresh = refreshed memory (committed_sam memory s) in
      get_or-set_same (map refresh memory.slots) s idle_slot idle_slot (omega (arith, length-map memory.slots refresh, h))

  -- another slot has touched what it had
  pub others-touch : (b t : ℕ) → (t ≡ s → ⊥) → touches_block (committed memory s) (slot_at (committed memory s) t) b ≡ touches_block memory (slot_at memory t) b
  unfolding committed touched
  others-touch b t n =
      ap
      (λ (slot : Slot). is_active slot.state && xor (tam_bit slot b) (bit (committed_sam memory s).words b))
      (refreshed-at memory (committed_sam memory s) s t n)
      ∙ go (is_active (slot_at memory t).state) refl
    where
      slot : Slot
      slot = slot_at memory t

      after : Slot
      after = refreshed memory (committed_sam memory s) slot

      go : (u : Bool)
          → is_active slot.state ≡ u
          → (is_active after.state && xor (tam_bit after b) (bit (committed_sam memory s).words b)) ≡ (is_active slot.state && touched memory slot b)
      go true e =
          let kept =
          others-kept memory parts s t b n active e (bit (committed_sam memory s).words b) (committed-bits memory parts s active b) (tam_bit after b)
          (refreshed-bits memory parts (committed_sam memory s) t e
          (λ x outside. no_bits-bit memory.blocks (committed_sam memory s).words x (committed-below memory s) outside)
          b) in
          ap₂ ◌&&◌ (refreshed-state memory (committed_sam memory s) slot) (same-differ _ _ _ _ kept.0 kept.1)
      go false e =
          ap (λ (u : Bool). u && xor (tam_bit after b) (bit (committed_sam memory s).words b)) (refreshed-state memory (committed_sam memory s) slot ∙ e)
          ∙ sym (ap (λ (u : Bool). u && touched memory slot b) e)

  -- the slot is idle; what it had touched is in SAM now, as it was in COM
  own-touch : (b : ℕ)
      → b < memory.blocks
      → one (differs memory b) ≡ one (touches_block memory (slot_at memory s) b) + one (xor (bit (committed_sam memory s).words b) (com_bit memory b))
  unfolding touched
  own-touch b inside = go (xor tam sam) refl
    where
      sam : Bool
      sam = sam_bit memory b

      tam : Bool
      tam = tam_bit (slot_at memory s) b

      new : bit (committed_sam memory s).words b ≡ tam
      new = committed-bits memory parts s active b

      go : (t : Bool)
          → xor tam sam ≡ t
          → one (differs memory b) ≡ one (touches_block memory (slot_at memory s) b) + one (xor (bit (committed_sam memory s).words b) (com_bit memory b))
      go true e =
          let touches-it : touches_block memory (slot_at memory s) b ≡ true = ap₂ ◌&&◌ active e in
          let differ = touched-differs memory parts s b inside touches-it in
          omega (
            arith,
            ap one differ,
            ap one touches-it,
            ap one (ap₂ xor new (both-differ tam (com_bit memory b) sam e differ) ∙ xor_self tam),
          )
      go false e =
          omega (
            arith,
            ap one (ap₂ ◌&&◌ active e),
            ap (λ (t : Bool). one (xor t (com_bit memory b))) (new ∙ same_or_not tam sam e),
          )

  -- what was available still is: where COM is SAM the slot has touched nothing
  still-available : (b : ℕ) → b < memory.blocks → available_in memory b ≡ true → available_in (committed memory s) b ≡ true
  unfolding committed is_available touched xor
  still-available b inside e =
      let free = available-free memory.sam.words memory.com.words b e in
      let unused = available-unused memory.sam.words memory.com.words b e in
      ap₂ (λ (x y : Bool). not x && not y) (committed-bits memory parts s active b ∙ go (xor (tam_bit (slot_at memory s) b) (sam_bit memory b)) refl free unused) unused
    where
      go : (t : Bool) → xor (tam_bit (slot_at memory s) b) (sam_bit memory b) ≡ t → sam_bit memory b ≡ false → com_bit memory b ≡ false → tam_bit (slot_at memory s) b ≡ false
      go true q free unused = absurd (false≢true (sym (ap₂ xor free unused) ∙ touched-differs memory parts s b inside (ap₂ ◌&&◌ active q)))
      go false q free unused = same_or_not (tam_bit (slot_at memory s) b) (sam_bit memory b) q ∙ free

  -- another active slot took what it had
  other-taken : (t : ℕ) → (t ≡ s → ⊥) → is_active (slot_at memory t).state ≡ true → length (taken_blocks (committed memory s) t) ≡ length (taken_blocks memory t)
  unfolding committed
  other-taken t n other =
      as-taken memory (committed memory s) refl t
      (λ b inside.
      took-is (committed memory s) (slot_at (committed memory s) t) b
      ∙ (others-kept memory parts s t b n active other (bit (committed_sam memory s).words b) (committed-bits memory parts s active b)
      (tam_bit (slot_at (committed memory s) t) b)
      (ap (λ (slot : Slot). tam_bit slot b) (refreshed-at memory (committed_sam memory s) s t n)
      ∙ refreshed-bits memory parts (committed_sam memory s) t other
      (λ x outside. no_bits-bit memory.blocks (committed_sam memory s).words x (committed-below memory s) outside)
      b)).0
      ∙ sym (took-is memory (slot_at memory t) b))

  committed-fits : ReservesFit (committed memory s)
  unfolding committed used_up
  committed-fits =
      record {
        total =
            omega (
              arith,
              total-set-le memory.reserves s reserve,
              total-split memory.reserves s,
              parts.reserves_fit.total,
              as-available memory (committed memory s) refl still-available,
            );
        drawn = λ t below. go t below (ℕ_discrete t s);
      }
    where
      reserve : Reserve
      reserve = used_up (reserve_at memory s)

      kept : (t : ℕ) → (t ≡ s → ⊥) → (get_or (set memory.reserves s reserve) t no_reserve).drawn ≡ (reserve_at memory t).drawn
      kept t n = ap (λ (x : Reserve). x.drawn) (get_or-set_other memory.reserves s t reserve no_reserve n)

      by_state : (t : ℕ) → t < slot_count → (t ≡ s → ⊥) → (u : Bool) → is_active (slot_at memory t).state ≡ u
          → (get_or (set memory.reserves s reserve) t no_reserve).drawn ≤ length (taken_blocks (committed memory s) t)
      by_state t below n true e = omega (arith, kept t n, parts.reserves_fit.drawn t below, other-taken t n e)
      by_state t below n false e = omega (arith, kept t n, idle-drawn memory t parts e below)

      go : (t : ℕ) → t < slot_count → Dec (t ≡ s) → (get_or (set memory.reserves s reserve) t no_reserve).drawn ≤ length (taken_blocks (committed memory s) t)
      go t below (yes e) =
          subst (λ (x : ℕ). (get_or (set memory.reserves s reserve) x no_reserve).drawn ≤ length (taken_blocks (committed memory s) x)) (sym e)
          (omega (arith, drawn-set-le memory.reserves s reserve))
      go t below (no n) = by_state t below n (is_active (slot_at memory t).state) refl

  pub committed-valid : ValidParts (committed memory s)
  unfolding committed pending_valid
  committed-valid =
      record {
        some_blocks = parts.some_blocks;
        few_blocks = parts.few_blocks;
        cursor_below = parts.cursor_below;
        sam_below = committed-below memory s;
        com_below = parts.com_below;
        slots_valid =
            all_slots-set (slot_valid memory.blocks) slots s idle_slot (idle-valid memory.blocks)
            (all_slots-map (slot_valid memory.blocks) (refreshed memory (committed_sam memory s)) memory.slots
            (refreshed-valid memory (committed_sam memory s))
            parts.slots_valid);
        touches_fit =
            balanced-agree memory (committed memory s) s parts refl (sym size) h
            (λ b inside t n. others-touch b t n)
            (λ b inside.
            subst
            (λ (slot : Slot).
            one (touches_block (committed memory s) slot b) + one (differs memory b)
            ≡ one (touches_block memory (slot_at memory s) b) + one (differs (committed memory s) b))
            (sym own-idle)
            (omega (arith, own-touch b inside)));
        reserves_fit = committed-fits;
        pending_fits = refl;
      }
    where
      slots : List Slot
      slots = map (refreshed memory (committed_sam memory s)) memory.slots

      size : length (set slots s idle_slot) ≡ length memory.slots
      size = length-set slots s idle_slot ∙ length-map memory.slots (refreshed memory (committed_sam memory s))
