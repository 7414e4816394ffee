-- A change of one slot: what it leaves as it was.
use Prim.Native.Nat.{ℕ, zero, suc, ◌+◌}
use native.Mathlib.Omega.{arith}
use mathlib.Core.Path.{◌≡◌, refl, sym, ◌∙◌}
use mathlib.Core.Bool.{true, false, true≢false}
use mathlib.Core.List.{List, [], ◌∷◌}
use lib.ListN.{length, get_or, set, length-set}
use lib.Seq.{get_or-set_other}
use Rattle.model.specs.Types.{Bitmap, Slot, Reserve, Memory}
use Rattle.model_types.specs.Memory.{reserve_at, idle_slot, no_reserve, with_cursor, with_com, with_slot, with_slots, with_reserves}
use Rattle.model.specs.Rules.Rollback.{rolled_back}
use Rattle.model.specs.Rules.Reserves.{drawing, put_back, reserving}
use Rattle.model.specs.Promises.Reservations.{together}
use Rattle.model.specs.Rules.Calls.Start.{started}
use Rattle.model.specs.Rules.Calls.Allocate.{taking}
use Rattle.model.specs.Rules.Calls.Deallocate.{freeing}
use Rattle.model.specs.Rules.Calls.Precommit.{precommitting}
use Rattle.model.specs.Rules.Work.{Change, start_change, precommit_change, drop_change, revoke_change, grant_change, free_change, reserve_change, Bearing, plain, granting, dropping, revoking, setting_aside, bearing, changed}

-- of as many values, only the one at s may differ
pub record OnlyAt {A : Type 0} (default : A) (s : ℕ) (new old : List A) : Type 0 where
  pub size : length new ≡ length old
  pub others : (t : ℕ) → (t ≡ s → ⊥) → get_or new t default ≡ get_or old t default

only_set : {A : Type 0} (default : A) (s : ℕ) (old : List A) (a : A) → OnlyAt default s (set old s a) old
only_set default s old a = record { size = length-set old s a; others = λ t n. get_or-set_other old s t a default n }

only_same : {A : Type 0} (default : A) (s : ℕ) (old : List A) → OnlyAt default s old old
only_same default s old = record { size = refl; others = λ t n. refl }

-- block count, SAM and pending work stay, and what the other slots have; so does the cursor but for a grant, the slot's own reserve but
-- for a grant, a rollback and a reserve, and both parts of it together but for a reserve
pub record Frame (memory after : Memory) (s : ℕ) (bears : Bearing) : Type 0 where
  pub blocks : after.blocks ≡ memory.blocks
  pub sam : after.sam ≡ memory.sam
  pub pending : after.pending ≡ memory.pending
  pub slots : OnlyAt idle_slot s after.slots memory.slots
  pub reserves : OnlyAt no_reserve s after.reserves memory.reserves
  pub cursor : bears.grants ≡ false → after.cursor ≡ memory.cursor
  pub own : bears.alters ≡ false → reserve_at after s ≡ reserve_at memory s
  pub sum : bears.sets_aside ≡ false → together after s ≡ together memory s

-- where the reserve of slot s changes and its parts are as many together
sum-set : (reserves : List Reserve) (s : ℕ) (new : Reserve)
    → new.reservation + new.drawn ≡ (get_or reserves s no_reserve).reservation + (get_or reserves s no_reserve).drawn
    → (get_or (set reserves s new) s no_reserve).reservation + (get_or (set reserves s new) s no_reserve).drawn
    ≡ (get_or reserves s no_reserve).reservation + (get_or reserves s no_reserve).drawn
sum-set [] s new e = refl
sum-set (x ∷ reserves) zero new e = e
sum-set (x ∷ reserves) (suc s) new e = sum-set reserves s new e

module _ (memory : Memory) (s : ℕ) where
  -- only the slot and COM change
  slot-alone : (slot : Slot) («com» : Bitmap) → Frame memory (with_slot (with_com memory «com») s slot) s plain
  slot-alone slot «com» =
      record {
        blocks = refl;
        sam = refl;
        pending = refl;
        slots = only_set idle_slot s memory.slots slot;
        reserves = only_same no_reserve s memory.reserves;
        cursor = λ _. refl;
        own = λ _. refl;
        sum = λ _. refl;
      }

  -- the reserve does too, to as much together or not
  with-reserve : (bears : Bearing) → bears.alters ≡ true
      → (slots : List Slot) → OnlyAt idle_slot s slots memory.slots
      → (cursor : ℕ) → (bears.grants ≡ false → cursor ≡ memory.cursor)
      → («com» : Bitmap) (reserve : Reserve)
      → (bears.sets_aside ≡ false → reserve.reservation + reserve.drawn ≡ together memory s)
      → Frame memory (with_reserves (with_cursor (with_slots (with_com memory «com») slots) cursor) (set memory.reserves s reserve)) s bears
  with-reserve bears alters slots only cursor stays «com» reserve same =
      record {
        blocks = refl;
        sam = refl;
        pending = refl;
        slots = only;
        reserves = only_set no_reserve s memory.reserves reserve;
        cursor = stays;
        own = λ e. absurd (true≢false (sym alters ∙ e));
        sum = λ e. sum-set memory.reserves s reserve (same e);
      }

  -- a rollback, of an open transaction or a precommitted one
  given-up : (bears : Bearing) → bears.alters ≡ true → Frame memory (rolled_back memory s) s bears
  unfolding rolled_back put_back
  given-up bears alters = with-reserve bears alters _ (only_set idle_slot s memory.slots _) memory.cursor (λ _. refl) _ _ (λ _. omega arith)

  pub change-frame : (change : Change) → Frame memory (changed change memory s) s (bearing change)
  unfolding changed started precommitting taking freeing reserving bearing drawing
  change-frame start_change = slot-alone _ memory.com
  change-frame precommit_change = slot-alone _ memory.com
  change-frame drop_change = given-up dropping refl
  change-frame revoke_change = given-up revoking refl
  change-frame (grant_change blocks) = with-reserve granting refl _ (only_set idle_slot s memory.slots _) _ (λ e. absurd (true≢false e)) _ _ (λ _. omega arith)
  change-frame (free_change block) = slot-alone _ _
  change-frame (reserve_change reservation) =
      with-reserve setting_aside refl _ (only_same idle_slot s memory.slots) memory.cursor (λ _. refl) memory.com _ (λ e. absurd (true≢false e))
