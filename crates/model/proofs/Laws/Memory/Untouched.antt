-- Start, precommit and reserve touch no block: the memory after them is valid.
use Prim.Native.Nat.{ℕ, ◌≤◌, ◌<◌}
use native.Mathlib.Decide.{ℕ_discrete}
use native.Mathlib.Omega.{arith}
use mathlib.Core.Path.{◌≡◌, refl, sym, ap, subst}
use mathlib.Core.Bool.{Bool, true, false, ◌&&◌}
use mathlib.Core.List.{List}
use lib.ListN.{length, get_or, set}
use lib.Seq.{get_or-set_other}
use Rattle.bitmap.specs.Sizes.{slot_count}
use Rattle.model.specs.Types.{Open, Precommitted, Slot, Reserve, Nothing, Memory}
use Rattle.model_types.specs.Memory.{slot_at, reserve_at, no_reserve, reserve_of, with_reserves, with_state, with_tam, is_active, sam_bit}
use Rattle.model.specs.Rules.Available.{available}
use Rattle.model.specs.Rules.Reserves.{total_reserved, reserving}
use Rattle.model.specs.Rules.Touched.{touched, took, taken_blocks}
use Rattle.model.specs.Rules.Calls.Start.{started}
use Rattle.model.specs.Rules.Calls.Precommit.{precommitting}
use Rattle.model.proofs.Laws.Memory.Valid.{ReservesFit, ValidParts, slot-below}
use Rattle.model.proofs.Laws.Memory.Reserves.{drawn-set-le}
use Rattle.model.proofs.Laws.Memory.Fit.{idle-drawn, changed-fits}
use Rattle.model.proofs.Laws.Touched.Touches.{one, xor_self, active-valid, touching-valid, reserves-valid}

module _ (memory : Memory) (s : ℕ) (parts : ValidParts memory) (nothing : memory.pending ≡ Nothing) (h : s < length memory.slots) where
  -- a copy of SAM differs from it nowhere
  pub started-valid : is_active (slot_at memory s).state ≡ false → ValidParts (started memory s)
  unfolding started touched available
  started-valid idle =
      touching-valid memory s copy memory.com memory.reserves parts nothing h (active-valid memory.blocks copy refl parts.sam_below) parts.com_below
      (λ b inside.
      omega (
        arith,
        ap one (xor_self (sam_bit memory b)),
        ap (λ (t : Bool). one (t && touched memory (slot_at memory s) b)) idle,
      ))
      fits
    where
      copy : Slot
      copy = with_state (with_tam (slot_at memory s) memory.sam) Open

      -- it has drawn nothing
      fits : ReservesFit (started memory s)
      fits =
          changed-fits memory s copy memory.com memory.reserves parts h (λ t n. refl) parts.reserves_fit.total
          (λ below. omega (arith, idle-drawn memory s parts idle below))

  -- the slot's bitmap stays
  pub precommitted-valid : is_active (slot_at memory s).state ≡ true → ValidParts (precommitting memory s)
  unfolding precommitting touched available taken_blocks took
  precommitted-valid active =
      touching-valid memory s after memory.com memory.reserves parts nothing h (active-valid memory.blocks after refl (slot-below memory s parts)) parts.com_below
      (λ b inside. omega (arith, ap (λ (t : Bool). one (t && touched memory (slot_at memory s) b)) active))
      fits
    where
      after : Slot
      after = with_state (slot_at memory s) Precommitted

      fits : ReservesFit (precommitting memory s)
      fits =
          changed-fits memory s after memory.com memory.reserves parts h (λ t n. refl) parts.reserves_fit.total (parts.reserves_fit.drawn s)

-- ---- reserve

-- nothing has changed but what is reserved, and that fits
pub reserving-valid : (memory : Memory) (s reservation : ℕ) → ValidParts memory → memory.pending ≡ Nothing
    → total_reserved (reserving memory s reservation).reserves ≤ length (available memory)
    → ValidParts (reserving memory s reservation)
unfolding reserving available taken_blocks took touched
reserving-valid memory s reservation parts nothing few = reserves-valid memory after parts nothing fits
  where
    reserve : Reserve
    reserve = reserve_of reservation (reserve_at memory s).drawn

    after : List Reserve
    after = set memory.reserves s reserve

    go : (t : ℕ) → t < slot_count → Dec (t ≡ s) → (get_or after t no_reserve).drawn ≤ length (taken_blocks memory t)
    go t h (yes e) =
        subst (λ (x : ℕ). (get_or after x no_reserve).drawn ≤ length (taken_blocks memory x)) (sym e)
        (omega (arith, drawn-set-le memory.reserves s reserve, parts.reserves_fit.drawn s (omega (arith, h, e))))
    go t h (no n) =
        omega (
          arith,
          ap {B = ℕ} (λ (x : Reserve). x.drawn) (get_or-set_other memory.reserves s t reserve no_reserve n),
          parts.reserves_fit.drawn t h,
        )

    fits : ReservesFit (with_reserves memory after)
    fits = record { total = few; drawn = λ t h. go t h (ℕ_discrete t s) }
