-- The memory after a commit: SAM is what the ledger has allocated, the slot is idle, and every other slot is tied as before.
use Prim.Native.Nat.{ℕ, ◌<◌}
use native.Mathlib.Decide.{ℕ_discrete}
use native.Mathlib.Omega.{arith}
use mathlib.Core.Path.{◌≡◌, refl, sym, ap, ◌∙◌, subst}
use mathlib.Core.Bool.{Bool, true, false, not, ◌&&◌}
use mathlib.Core.Option.{none}
use mathlib.Core.List.{List, map}
use lib.ListN.{length, get_or, set, length-set, length-map}
use lib.Seq.{get_or-set_same}
use Rattle.bitmap.specs.declared.Bitmap.{Bitmap}
use Rattle.bitmap.specs.Sizes.{slot_count}
use Rattle.bitmap.specs.Bits.{bit}
use Rattle.bitmap.specs.Blocks.{member}
use Rattle.bitmap.proofs.Laws.Bits.{bit-from}
use Rattle.model_types.specs.declared.memory.Memory.{Memory}
use Rattle.model_types.specs.declared.memory.Slot.{Slot}
use Rattle.model_types.specs.Memory.{slot_at, idle_slot, is_active, sam_bit, tam_bit}
use Rattle.model.specs.Rules.Commit.{committed_sam, refreshed, committed}
use Rattle.crash_safety.specs.Ledger.{Sets, Ledger, sets_of}
use Rattle.model.proofs.Laws.Memory.Valid.{ValidParts}
use Rattle.model.proofs.Laws.Commit.Commit.{committed-bits, refreshed-bits, others-kept}
use Rattle.model.proofs.Laws.Commit.Committed.{committed-bitmap, refreshed-at, refreshed-state, refreshed-idle}
use Rattle.crash_safety.proofs.Invariant.{Tied, Related}

module _ (memory : Memory) (ledger : Ledger) (s : ℕ) (parts : ValidParts memory)
    (active : is_active (slot_at memory s).state ≡ true) where
  new : Bitmap
  new = committed_sam memory s

  new_bit : ℕ → Bool
  new_bit b = bit new.words b

  -- another slot's tie
  other-tie : (t : ℕ) (sets : Sets) → (t ≡ s → ⊥) → Tied (sam_bit memory) (slot_at memory t) sets → Tied new_bit (refreshed memory new (slot_at memory t)) sets
  unfolding new_bit new committed_sam
  other-tie t sets n tie = go (is_active (slot_at memory t).state) refl
    where
      tam : ℕ → Bool
      tam b = tam_bit (refreshed memory new (slot_at memory t)) b

      kept : is_active (slot_at memory t).state ≡ true
          → (b : ℕ)
          → ((tam b && not (new_bit b)) ≡ (tam_bit (slot_at memory t) b && not (sam_bit memory b)))
          × ((new_bit b && not (tam b)) ≡ (sam_bit memory b && not (tam_bit (slot_at memory t) b)))
      kept e b =
          others-kept memory parts s t b n active e (new_bit b) (committed-bits memory parts s active b) (tam b)
          (refreshed-bits memory parts new t e (λ x h. bit-from memory.blocks _ x h) b)

      go : (u : Bool) → is_active (slot_at memory t).state ≡ u → Tied new_bit (refreshed memory new (slot_at memory t)) sets
      go true e =
          let still = refreshed-state memory new (slot_at memory t) in
          record {
            taken = λ b.
                tie.taken b
                ∙ ap (λ (u : Bool). is_active (slot_at memory t).state && u) (sym (kept e b).0)
                ∙ ap (λ (u : Bool). u && (tam_bit (refreshed memory new (slot_at memory t)) b && not (new_bit b))) (sym still);
            freed = λ b.
                tie.freed b
                ∙ ap (λ (u : Bool). is_active (slot_at memory t).state && u) (sym (kept e b).1)
                ∙ ap (λ (u : Bool). u && (new_bit b && not (tam_bit (refreshed memory new (slot_at memory t)) b))) (sym still);
          }
      go false e =
          let idle = subst (λ (slot : Slot). is_active slot.state ≡ false) (sym (refreshed-idle memory new (slot_at memory t) e)) e in
          let after : Slot = refreshed memory new (slot_at memory t) in
          record {
            taken = λ b.
                tie.taken b
                ∙ ap (λ (u : Bool). u && (tam_bit (slot_at memory t) b && not (sam_bit memory b))) e
                ∙ sym (ap (λ (u : Bool). u && (tam_bit after b && not (new_bit b))) idle);
            freed = λ b.
                tie.freed b
                ∙ ap (λ (u : Bool). u && (sam_bit memory b && not (tam_bit (slot_at memory t) b))) e
                ∙ sym (ap (λ (u : Bool). u && (new_bit b && not (tam_bit after b))) idle);
          }

  pub committed-related : length memory.slots ≡ slot_count
      → s < slot_count
      → ((b : ℕ) → bit (committed_sam memory s).words b ≡ member b ledger.allocated)
      → ((t : ℕ) → (t ≡ s → ⊥) → Tied (sam_bit memory) (slot_at memory t) (sets_of ledger t))
      → ((b : ℕ) → member b (sets_of ledger s).taken ≡ false)
      → ((b : ℕ) → member b (sets_of ledger s).freed ≡ false)
      → ledger.counting ≡ none
      → Related (committed memory s) ledger
  unfolding committed new_bit new
  committed-related eight below finds ties no-taken no-freed uncounted =
      record {
        sam = committed-bitmap memory s;
        slots = length-set (map (refreshed memory new) memory.slots) s idle_slot ∙ length-map memory.slots (refreshed memory new) ∙ eight;
        pending = record { finds = finds; slots = λ t. tied t (ℕ_discrete t s); counted = uncounted };
      }
    where
      slots : List Slot
      slots = map (refreshed memory new) memory.slots

      there : s < length slots
      there = omega (arith, length-map memory.slots (refreshed memory new))

      tied : (t : ℕ) → Dec (t ≡ s) → Tied new_bit (get_or (set slots s idle_slot) t idle_slot) (sets_of ledger t)
      tied t (yes e) =
          subst (λ (x : ℕ). Tied new_bit (get_or (set slots s idle_slot) x idle_slot) (sets_of ledger x)) (sym e)
          (subst (λ (slot : Slot). Tied new_bit slot (sets_of ledger s)) (sym (get_or-set_same slots s idle_slot idle_slot there))
          (record { taken = no-taken; freed = no-freed }))
      tied t (no n) =
          subst (λ (slot : Slot). Tied new_bit slot (sets_of ledger t)) (sym (refreshed-at memory new s t n)) (other-tie t (sets_of ledger t) n (ties t n))
