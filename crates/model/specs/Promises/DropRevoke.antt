-- What drop and revoke promise. Document 02, job 5: "A station gave up another's sealed work by mistake. Split rollback: 'drop'
-- serves an open seat, 'revoke' a precommitted one."
use Rattle.std.specs.Prelude.{ℕ, ◌+◌, ◌<◌, ◌≡◌, cond, set}
use Rattle.bitmap.specs.Sizes.{slot_count}
use Rattle.model.specs.Types.{SlotState, Idle, Open, Precommitted, Nothing, Memory, SlotIdle, SlotPrecommitted, SlotNotPrecommitted, Answer, Ok, Err, ⊤}
use Rattle.model_types.specs.Memory.{slot_at, reserve_at, reserve_of, idle_slot, sam_bit, com_bit}
use Rattle.model.specs.Rules.Touched.{touched}
use Rattle.model.specs.Rules.Calls.Drop.{drop_answer, drop_memory}
use Rattle.model.specs.Rules.Calls.Revoke.{revoke_answer, revoke_memory}
use Rattle.model.specs.Promises.FourCounts.{OfValid}

-- slot s rolled back: it is idle, COM is as SAM at each block that it has touched, what it has drawn is put back (job 7), and nothing
-- else alters
pub record RollsBack (memory : Memory) (s : ℕ) (after : Memory) : Type 0 where
  pub idle : slot_at after s ≡ idle_slot
  pub com_bits : (b : ℕ) → com_bit after b ≡ cond (touched memory (slot_at memory s) b) (sam_bit memory b) (com_bit memory b)
  pub same_blocks : after.blocks ≡ memory.blocks
  pub same_cursor : after.cursor ≡ memory.cursor
  pub same_sam : after.sam ≡ memory.sam
  pub other_slots : (t : ℕ) → (t ≡ s → ⊥) → slot_at after t ≡ slot_at memory t
  pub reserves : after.reserves ≡ set memory.reserves s (reserve_of ((reserve_at memory s).reservation + (reserve_at memory s).drawn) 0)
  pub same_pending : after.pending ≡ memory.pending

-- the slot was in the state that the call means, and is rolled back
pub record Ends (state : SlotState) (memory : Memory) (s : ℕ) (after : Memory) : Type 0 where
  pub meant : (slot_at memory s).state ≡ state
  pub rolls_back : RollsBack memory s after

-- a drop that is done ends an open slot's transaction, a revoke a precommitted one's
abbrev pub DropEndsOpen : Type 0
DropEndsOpen = (memory : Memory) (s : ℕ) → drop_answer memory s ≡ Ok tt → Ends Open memory s (drop_memory memory s)

abbrev pub RevokeEndsPrecommitted : Type 0
RevokeEndsPrecommitted =
    (memory : Memory) (s : ℕ) → revoke_answer memory s ≡ Ok 0 → Ends Precommitted memory s (revoke_memory memory s)

-- no drop alters anything where the slot is precommitted, and no revoke where it is open, whatever else the memory is
abbrev pub DropSparesPrecommitted : Type 0
DropSparesPrecommitted = (memory : Memory) (s : ℕ) → (slot_at memory s).state ≡ Precommitted → drop_memory memory s ≡ memory

abbrev pub RevokeSparesOpen : Type 0
RevokeSparesOpen = (memory : Memory) (s : ℕ) → (slot_at memory s).state ≡ Open → revoke_memory memory s ≡ memory

-- what each answers by the slot's state alone
abbrev pub drop_for : SlotState → Answer ⊤
drop_for Idle = Err SlotIdle
drop_for Open = Ok tt
drop_for Precommitted = Err SlotPrecommitted

abbrev pub revoke_for : SlotState → Answer ℕ
revoke_for Idle = Err SlotIdle
revoke_for Open = Err SlotNotPrecommitted
revoke_for Precommitted = Ok 0

-- so each does for every slot of a valid memory with nothing pending: an active slot's transaction can always be ended, by just
-- one of the two
pub record ByState (memory : Memory) (s : ℕ) : Type 0 where
  pub drops : drop_answer memory s ≡ drop_for (slot_at memory s).state
  pub revokes : revoke_answer memory s ≡ revoke_for (slot_at memory s).state

abbrev pub AnswersByState : Type 0
AnswersByState = OfValid (λ memory. (s : ℕ) → memory.pending ≡ Nothing → s < slot_count → ByState memory s)
