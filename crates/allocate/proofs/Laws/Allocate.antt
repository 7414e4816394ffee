-- Allocate: its error by the causes that it tests last, and what taking its blocks needs.
use Prim.Native.Nat.{ℕ, ◌≤◌}
use native.Mathlib.Omega.{arith}
use mathlib.Core.Path.{◌≡◌, refl, sym, ap, ap₂, ◌∙◌}
use mathlib.Core.Option.{none, some}
use mathlib.Core.List.{List}
use lib.ListN.{length}
use Rattle.std.specs.Prelude.{Ok, Err, ⊤}
use Rattle.available.specs.Take.{CanTake, first_blocks}
use Rattle.model_types.specs.declared.error.Error.{Error}
use Rattle.model_types.specs.declared.memory.Slot.{Slot}
use Rattle.model_types.specs.declared.memory.Memory.{Memory}
use Rattle.model_types.specs.Answers.{answer}
use Rattle.model_types.specs.Memory.{slot_at}
use Rattle.model.specs.Rules.Available.{available}
use Rattle.model.specs.Rules.CauseLists.{open_causes, of_slot, grant_causes}
use Rattle.model.specs.Rules.First.{first}
use Rattle.model.specs.Rules.Reserves.{others_reserved}
use Rattle.model.specs.Rules.Calls.Precommit.{precommit_error}
use Rattle.model.specs.Rules.Calls.Allocate.{allocate_error, met, first_met}
use Rattle.model.proofs.Laws.Calls.Accepted.{AllocateAccepted}
use Rattle.model.proofs.Laws.Calls.Answered.{told-answer, told-refusal}
use Rattle.model.proofs.Laws.Calls.Turns.{some-before, none-before}
use Rattle.model.proofs.Laws.Memory.Valid.{ValidParts, valid-parts, slot-below}
use Rattle.model.proofs.Laws.Memory.Taking.{met-length}
use Rattle.model_types.specs.Shape.{HasShape}
use Rattle.verdicts.specs.declared.ready.Ready.{Ready}
use Rattle.verdicts.proofs.Laws.Ready.{Passed}

module _ (memory : Memory) (s count : ℕ) (list : List ℕ) where
  -- an open slot's causes come first
  pub by-open : {error : Error} → precommit_error memory s ≡ some error → allocate_error memory s count list ≡ some error
  unfolding precommit_error allocate_error
  by-open {error = error} e = some-before (of_slot open_causes memory s) _ error e

  -- and behind them its own decide, by what was counted and added up
  module _ {ready : Ready} {counted kept : ℕ} (told : Passed memory s (precommit_error memory s) ready)
      (counts : counted ≡ length (available memory)) (adds : kept ≡ others_reserved memory.reserves ready.at) where
    by-grant : allocate_error memory s count list ≡ first (grant_causes counted count list kept)
    unfolding precommit_error allocate_error
    by-grant =
        none-before (of_slot open_causes memory s) _ told.none-found
        ∙ sym (ap₂ (λ (n m : ℕ). first (grant_causes n count list m)) counts (adds ∙ ap (others_reserved memory.reserves) told.at-is))

    pub refused : {error : Error} → Err error ≡ answer {A = ⊤} (first (grant_causes counted count list kept)) tt → allocate_error memory s count list ≡ some error
    refused e = by-grant ∙ told-refusal _ _ _ (sym e)

    pub none-held : Ok tt ≡ answer {A = ⊤} (first (grant_causes counted count list kept)) tt → allocate_error memory s count list ≡ none
    none-held e = by-grant ∙ (told-answer _ _ _ (sym e)).0

  -- its blocks are as many as counted, so at least one
  pub some-met : AllocateAccepted memory s count list → 1 ≤ length (first_met memory count)
  some-met g = omega (arith, g.some, met-length memory count (valid-parts memory g.ready.is_valid).cursor_below g.enough)

  -- enough blocks are available, and the list has room for them
  pub can-take : {own : Slot} → own ≡ slot_at memory s → HasShape memory → ValidParts memory → count ≤ length (available memory) → count ≤ length list
      → CanTake memory.blocks memory.cursor count memory.sam.words memory.com.words own.tam.words list
  unfolding available
  can-take read shape parts enough room =
      rw read
      (record {
        volume = parts.few_blocks;
        inside = parts.cursor_below;
        is_sam = shape.sam;
        is_com = shape.«com»;
        is_tam = shape.tam s;
        end_of_com = parts.com_below;
        end_of_tam = slot-below memory s parts;
        enough = enough;
        room = room;
      })

-- what was taken, as the definitions name it
pub first-blocks : (memory : Memory) (count : ℕ)
    → first_blocks memory.blocks memory.cursor count memory.sam.words memory.com.words ≡ first_met memory count
unfolding first_met met
first-blocks memory count = refl
