-- What a rollback does in a valid memory: COM becomes SAM where the slot has touched a block, and stays elsewhere.
use Prim.Native.Nat.{ℕ, ◌+◌, ◌≤◌, ◌<◌}
use native.Mathlib.Omega.{arith}
use mathlib.Core.Path.{◌≡◌, refl, sym, ap, ap₂, ◌∙◌}
use mathlib.Core.Logic.{⊎_elim}
use mathlib.Core.Bool.{Bool, true, false, not, cond, xor, ◌&&◌, false≢true}
use lib.ListN.{length, set}
use lib.Seq.{get_or-set_other}
use Rattle.bitmap.specs.Bits.{bit}
use Rattle.bitmap.specs.Majority.{majority}
use Rattle.bitmap.proofs.Laws.Bits.{bit_below, bit-from, below-or-from, no_bits-bit, no_bits-bitmap_of}
use Rattle.bitmap.specs.Blocks.{is_available}
use Rattle.bitmap.specs.Sizes.{slot_count}
use Rattle.bitmap.proofs.Laws.Majority.{rollback-untouched, rollback-touched}
use Rattle.model.specs.Types.{Nothing, Reserve, Memory}
use Rattle.model_types.specs.Memory.{slot_at, reserve_at, no_reserve, idle_slot, is_active, sam_bit, com_bit, tam_bit}
use Rattle.model.specs.Rules.Reserves.{put_back}
use Rattle.model.specs.Rules.Touched.{touched, took}
use Rattle.model.specs.Rules.Rollback.{rolled_back_com, rolled_back}
use Rattle.model.proofs.Laws.Memory.Valid.{ReservesFit, ValidParts, touches_block, idle-valid}
use Rattle.model.proofs.Laws.Memory.Reserves.{total-split, total-set-le, drawn-set-le}
use Rattle.model.proofs.Laws.Memory.Fit.{available_in, more-available, changed-fits}
use Rattle.model.proofs.Laws.Commit.Commit.{same_or_not, touched-differs}
use Rattle.model.proofs.Laws.Touched.Touches.{one, xor_self, differs, touching-valid}

module _ (memory : Memory) (parts : ValidParts memory) (s : ℕ) where
  pub rolled-back-bits : (b : ℕ) → bit (rolled_back_com memory s).words b ≡ cond (touched memory (slot_at memory s) b) (sam_bit memory b) (com_bit memory b)
  unfolding rolled_back_com touched
  rolled-back-bits b = ⊎_elim (λ (h : b < memory.blocks). inside h) (λ (h : memory.blocks ≤ b). outside h) (below-or-from b memory.blocks)
    where
      sam : Bool
      sam = sam_bit memory b

      tam : Bool
      tam = tam_bit (slot_at memory s) b

      bits : ℕ → Bool
      bits x = majority (com_bit memory x) (sam_bit memory x) (not (tam_bit (slot_at memory s) x))

      go : (t : Bool) → xor tam sam ≡ t → majority (com_bit memory b) sam (not tam) ≡ cond t sam (com_bit memory b)
      go true e = rollback-touched sam (com_bit memory b) tam e
      go false e = ap (λ (t : Bool). majority (com_bit memory b) sam (not t)) (same_or_not tam sam e) ∙ rollback-untouched sam (com_bit memory b)

      inside : b < memory.blocks → bit (rolled_back_com memory s).words b ≡ cond (xor tam sam) sam (com_bit memory b)
      inside h = bit_below memory.blocks bits b parts.few_blocks h ∙ go (xor tam sam) refl

      none-either : (t : Bool) → cond t false false ≡ false
      none-either true = refl
      none-either false = refl

      outside : memory.blocks ≤ b → bit (rolled_back_com memory s).words b ≡ cond (xor tam sam) sam (com_bit memory b)
      outside h =
          bit-from memory.blocks bits b h
          ∙ sym
          (ap₂ (cond (xor tam sam))
          (no_bits-bit memory.blocks memory.sam.words b parts.sam_below h)
          (no_bits-bit memory.blocks memory.com.words b parts.com_below h)
          ∙ none-either (xor tam sam))

  -- what was available still is, and so is what the slot took
  back-available : is_active (slot_at memory s).state ≡ true → (b : ℕ) → b < memory.blocks
      → cond (available_in memory b) 1 0 + cond (took memory (slot_at memory s) b) 1 0 ≤ cond (available_in (rolled_back memory s) b) 1 0
  unfolding rolled_back is_available took xor
  back-available active b inside =
      rw (rolled-back-bits b) (go (touched memory (slot_at memory s) b) refl (sam_bit memory b) refl (com_bit memory b) refl)
    where
      go : (t : Bool) → touched memory (slot_at memory s) b ≡ t → (sam : Bool) → sam_bit memory b ≡ sam → («com» : Bool) → com_bit memory b ≡ «com»
          → cond (not sam && not «com») 1 0 + cond (t && not sam) 1 0 ≤ cond (not sam && not (cond t sam «com»)) 1 0
      go true e true f «com» g = omega arith
      go true e false f true g = omega arith
      go true e false f false g =
          absurd (false≢true (sym (ap₂ xor f g) ∙ touched-differs memory parts s b inside (ap₂ (λ (x y : Bool). x && y) active e)))
      go false e true f «com» g = omega arith
      go false e false f true g = omega arith
      go false e false f false g = omega arith

  -- so there is room for what is put back
  back_fits : s < length memory.slots → s < slot_count → is_active (slot_at memory s).state ≡ true → ReservesFit (rolled_back memory s)
  unfolding rolled_back put_back
  back_fits h below active =
      let reserve : Reserve = put_back (reserve_at memory s) in
      changed-fits memory s idle_slot (rolled_back_com memory s) (set memory.reserves s reserve) parts h
      (λ t n. get_or-set_other memory.reserves s t reserve no_reserve n)
      (omega (
        arith,
        total-set-le memory.reserves s reserve,
        total-split memory.reserves s,
        parts.reserves_fit.total,
        parts.reserves_fit.drawn s below,
        more-available memory (rolled_back memory s) refl s (back-available active),
      ))
      (λ _. omega (arith, drawn-set-le memory.reserves s reserve))

  -- the memory after it is valid
  pub rolled-back-valid : memory.pending ≡ Nothing → s < length memory.slots → s < slot_count → is_active (slot_at memory s).state ≡ true
      → ValidParts (rolled_back memory s)
  unfolding rolled_back rolled_back_com
  rolled-back-valid nothing h below active =
      touching-valid memory s idle_slot (rolled_back_com memory s) _ parts nothing h (idle-valid memory.blocks) (no_bits-bitmap_of memory.blocks _)
      (λ b inside. go b inside (touched memory (slot_at memory s) b) refl)
      (back_fits h below active)
    where
      go : (b : ℕ) → b < memory.blocks → (t : Bool) → touched memory (slot_at memory s) b ≡ t
          → 0 + one (differs memory b) ≡ one (touches_block memory (slot_at memory s) b) + one (xor (sam_bit memory b) (bit (rolled_back_com memory s).words b))
      go b inside true e =
          let touches-it : touches_block memory (slot_at memory s) b ≡ true = ap₂ (λ (x y : Bool). x && y) active e in
          let back : bit (rolled_back_com memory s).words b ≡ sam_bit memory b =
          rolled-back-bits b ∙ ap (λ (t : Bool). cond t (sam_bit memory b) (com_bit memory b)) e in
          omega (
            arith,
            ap one (touched-differs memory parts s b inside touches-it),
            ap one touches-it,
            ap (λ (t : Bool). one (xor (sam_bit memory b) t)) back,
            ap one (xor_self (sam_bit memory b)),
          )
      go b inside false e =
          let untouched : touches_block memory (slot_at memory s) b ≡ false = ap₂ (λ (x y : Bool). x && y) active e in
          let kept : bit (rolled_back_com memory s).words b ≡ com_bit memory b =
          rolled-back-bits b ∙ ap (λ (t : Bool). cond t (sam_bit memory b) (com_bit memory b)) e in
          omega (arith, ap one untouched, ap (λ (t : Bool). one (xor (sam_bit memory b) t)) kept)
