-- Reserve: its own cause, behind those of an idle slot.
use Prim.Native.Nat.{ℕ, ◌+◌, ◌^◌, ◌<◌}
use native.Mathlib.Nat.{add_comm}
use native.Mathlib.Omega.{arith}
use mathlib.Core.Path.{◌≡◌, sym, ap, ap₂, ◌∙◌}
use mathlib.Core.Bool.{true}
use lib.ListN.{length}
use Rattle.std.specs.Prelude.{⊤}
use Rattle.bitmap.specs.Sizes.{slot_count}
use Rattle.bitmap.specs.Blocks.{is_available, available_blocks}
use Rattle.bitmap.proofs.Laws.Blocks.{from-length}
use Rattle.model_types.specs.declared.memory.Memory.{Memory}
use Rattle.model_types.specs.Answers.{Answer, answer}
use Rattle.model_types.specs.Memory.{reserve_at, reserve_of}
use Rattle.model.specs.Rules.First.{first}
use Rattle.model.specs.Rules.Available.{available}
use Rattle.model.specs.Rules.CauseLists.{idle_causes, of_slot, room_causes}
use Rattle.model.specs.Rules.Reserves.{total_reserved, others_reserved, reserving}
use Rattle.model.specs.Rules.Valid.{valid}
use Rattle.model.specs.Rules.Calls.Start.{start_error}
use Rattle.model.specs.Rules.Calls.Reserve.{reserve_error}
use Rattle.model.proofs.Laws.Memory.Reserves.{total-set, total-split}
use Rattle.model.proofs.Laws.Memory.Valid.{valid-parts}
use Rattle.model.proofs.Laws.Calls.Accepted.{start-accepted}
use Rattle.model.proofs.Laws.Calls.Turns.{none-before}
use Rattle.model_types.specs.Shape.{HasShape}
use Rattle.verdicts.specs.declared.ready.Ready.{Ready}
use Rattle.verdicts.proofs.Laws.Ready.{Passed}

module _ (memory : Memory) (s : ℕ) where
  -- what is reserved of a valid memory is available, so that no sum of it is large
  pub kept-small : valid memory ≡ true → others_reserved memory.reserves s < 2 ^ 36
  unfolding available available_blocks
  kept-small sound =
      let parts = valid-parts memory sound in
      omega (
        arith,
        total-split memory.reserves s,
        parts.reserves_fit.total,
        from-length (is_available memory.sam.words memory.com.words) memory.blocks 0,
        parts.few_blocks,
      )

  module _ (reservation : ℕ) where
    -- what all would add up to
    total-then : length memory.reserves ≡ slot_count → s < slot_count
        → others_reserved memory.reserves s + reservation ≡ total_reserved (reserving memory s reservation).reserves
    unfolding reserving
    total-then eight below =
        add_comm (others_reserved memory.reserves s) reservation
        ∙ sym (total-set memory.reserves s (reserve_of reservation (reserve_at memory s).drawn) (omega (arith, eight, below)))

    -- behind those of an idle slot, which are start's, the sum decides
    pub room-decides : {ready : Ready} {counted kept : ℕ} {r : Answer ⊤} → Passed memory s (start_error memory s) ready → HasShape memory
        → counted ≡ length (available memory)
        → kept ≡ others_reserved memory.reserves ready.at
        → r ≡ answer (first (room_causes counted (kept + reservation))) tt
        → r ≡ answer (reserve_error memory s reservation) tt
    unfolding start_error reserve_error
    room-decides told shape e f g =
        let total =
        ap (λ (n : ℕ). n + reservation) (f ∙ ap (others_reserved memory.reserves) told.at-is)
        ∙ total-then shape.reserves (start-accepted memory s told.none-found).ready.below in
        g
        ∙ ap (λ x. answer x tt)
        (ap₂ (λ (n m : ℕ). first (room_causes n m)) e total ∙ sym (none-before (of_slot idle_causes memory s) _ told.none-found))
