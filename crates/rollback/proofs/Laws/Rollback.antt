-- What the piece of work leaves is the definition's.
use Prim.Native.Nat.{ℕ, ◌<◌}
use native.Mathlib.Omega.{arith}
use mathlib.Core.Path.{◌≡◌, ap, ap₂, ◌∙◌}
use mathlib.Core.Bool.{true}
use mathlib.Core.List.{List}
use lib.ListN.{get_or, set}
use lib.Seq.{set-set}
use Rattle.std.proofs.lemmas.List.{get_or_default}
use Rattle.bitmap.specs.Sizes.{slot_count}
use Rattle.model_types.specs.declared.memory.Slot.{Slot}
use Rattle.model_types.specs.declared.memory.Reserve.{Reserve}
use Rattle.model_types.specs.declared.memory.Memory.{Memory}
use Rattle.model_types.specs.Memory.{bitmap, slot_at, reserve_at, idle_slot, with_com, with_slots, with_reserve}
use Rattle.model.specs.Rules.Valid.{valid}
use Rattle.model.specs.Rules.Reserves.{put_back}
use Rattle.model.specs.Rules.Rollback.{rolled_back_com, rolled_back}
use Rattle.model.proofs.Laws.Memory.Valid.{valid-parts, slot-below}
use Rattle.model_types.specs.Shape.{HasShape}
use Rattle.bitops.specs.Combine.{rollback_word, zip3}
use Rattle.bitops.proofs.Laws.Combine.{rollback-bitmap}

module _ (memory : Memory) (s : ℕ) (shape : HasShape memory) (v : valid memory ≡ true) where
  rolled-com : zip3 rollback_word memory.com.words memory.sam.words (slot_at memory s).tam.words ≡ (rolled_back_com memory s).words
  unfolding rolled_back_com
  rolled-com =
      let parts = valid-parts memory v in
      rollback-bitmap memory.blocks parts.few_blocks memory.com.words memory.sam.words (slot_at memory s).tam.words
      shape.com shape.sam (shape.tam s) parts.com_below parts.sam_below (slot-below memory s parts)

  -- the words combined, the slot idle where it was read, and its reserve put back
  pub rolled : {words : List ℕ} {idle : Slot} {reserve : Reserve} (d read : Slot) → s < slot_count
      → words ≡ zip3 rollback_word memory.com.words memory.sam.words (get_or memory.slots s d).tam.words
      → idle ≡ idle_slot → reserve ≡ put_back (reserve_at memory s)
      → with_reserve (with_slots (with_com memory (bitmap words)) (set (set memory.slots s read) s idle)) s reserve ≡ rolled_back memory s
  unfolding rolled_back
  rolled {words = words} {idle = idle} {reserve = reserve} d read below words-are idle-is reserve-is =
      let slot = get_or_default memory.slots s d idle_slot (omega (arith, shape.slots, below)) in
      let com-is = words-are ∙ ap (λ (x : Slot). zip3 rollback_word memory.com.words memory.sam.words x.tam.words) slot ∙ rolled-com in
      ap (λ (x : List ℕ). with_reserve (with_slots (with_com memory (bitmap x)) (set (set memory.slots s read) s idle)) s reserve) com-is
      ∙ ap₂ (λ (x : List Slot) (y : Reserve). with_reserve (with_slots (with_com memory (rolled_back_com memory s)) x) s y)
      (set-set memory.slots s read idle ∙ ap (set memory.slots s) idle-is) reserve-is
