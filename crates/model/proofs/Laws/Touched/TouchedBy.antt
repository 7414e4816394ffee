-- How many blocks a slot has touched, none if it is idle: what each change of the memory makes of it.
use Prim.Native.Nat.{ℕ, ◌+◌, ◌≤◌, ◌<◌}
use native.Mathlib.Decide.{ℕ_discrete}
use native.Mathlib.Omega.{arith}
use mathlib.Core.Path.{◌≡◌, refl, sym, ap, subst}
use mathlib.Core.Bool.{Bool, true, false, not, cond, xor, ◌&&◌, ◌||◌}
use mathlib.Core.List.{List, [], ◌∷◌}
use lib.ListN.{length}
use lib.Dec.{eqb}
use borrow.Author.Tests.{eqb-true, eqb-false}
use Rattle.bitmap.specs.Blocks.{from, member}
use Rattle.bitmap.proofs.Laws.Bits.{bit_below}
use Rattle.bitmap.proofs.Laws.Blocks.{from-same}
use Rattle.bitmap.proofs.Laws.Count.{count-more}
use Rattle.model.specs.Types.{Bitmap, Slot, Reserve, Pending, Memory}
use Rattle.model_types.specs.Memory.{slot_at, idle_slot, is_active, sam_bit, tam_bit, with_cursor, with_com, with_slot, with_reserves, with_pending}
use Rattle.model.specs.Rules.Touched.{touched, touched_blocks}
use Rattle.model.specs.Rules.Reserves.{reserving}
use Rattle.model.specs.Rules.Commit.{committed}
use Rattle.model.specs.Rules.Calls.Start.{started}
use Rattle.model.specs.Rules.Calls.Allocate.{taking}
use Rattle.model.specs.Rules.Calls.Deallocate.{freeing}
use Rattle.model.specs.Rules.Calls.Precommit.{precommitting}
use Rattle.model.specs.Rules.Rollback.{rolled_back}
use Rattle.model.proofs.Laws.Memory.Fields.{slot_same, slot-other}
use Rattle.model.proofs.Laws.Memory.Valid.{ValidParts, touches_block}
use Rattle.model.proofs.Laws.Touched.Touches.{xor_self}
use Rattle.model.proofs.Laws.Commit.Committed.{own-idle, others-touch}

unfoldable pub touched_by : Memory → ℕ → ℕ
touched_by memory s = length (from (touches_block memory (slot_at memory s)) memory.blocks 0)

-- of an active slot they are the blocks that it has touched
pub active-touched : (memory : Memory) (s : ℕ) → is_active (slot_at memory s).state ≡ true → touched_by memory s ≡ length (touched_blocks memory s)
unfolding touched_by touched_blocks
active-touched memory s active = ap length (from-same (touches_block memory (slot_at memory s)) (touched memory (slot_at memory s)) memory.blocks 0 (λ b l h. rw active))

-- another memory of the same volume, in which the slot has touched at most so many more
pub record Touches (memory other : Memory) (s more : ℕ) : Type 0 where
  pub few : touched_by other s ≤ touched_by memory s + more
  pub volume : other.blocks ≡ memory.blocks

module _ (memory other : Memory) (s : ℕ) (volume : other.blocks ≡ memory.blocks) where
  abbrev before : ℕ → Bool
  before = touches_block memory (slot_at memory s)

  abbrev after : ℕ → Bool
  after = touches_block other (slot_at other s)

  -- in a volume of as many blocks
  counted-there : touched_by other s ≡ length (from after memory.blocks 0)
  unfolding touched_by
  counted-there = ap (λ (m : ℕ). length (from after m 0)) volume

  -- where it has touched what it had
  pub same-touches : ((b : ℕ) → b < memory.blocks → after b ≡ before b) → Touches memory other s 0
  unfolding touched_by
  same-touches same =
      record { few = omega (arith, counted-there, ap {B = ℕ} length (from-same after before memory.blocks 0 (λ b l h. same b h))); volume = volume }

  -- where it has touched the blocks of a list besides
  more-touches : (blocks : List ℕ)
      → ((b : ℕ) → b < memory.blocks → cond (after b) 1 0 ≤ cond (member b blocks) 1 0 + cond (before b) 1 0)
      → Touches memory other s (length blocks)
  unfolding touched_by
  more-touches blocks few = record { few = omega (arith, counted-there, count-more after before blocks memory.blocks few); volume = volume }

  -- where it is idle
  idle-touches : is_active (slot_at other s).state ≡ false → Touches memory other s 0
  idle-touches idle = more-touches [] (λ b h. rw idle (omega arith))

-- ---- one slot changed, and COM

module _ (memory : Memory) (s : ℕ) (slot : Slot) («com» : Bitmap) where
  abbrev changed : Memory
  changed = with_slot (with_com memory «com») s slot

  -- another slot has touched what it had
  other-kept : (t : ℕ) → (t ≡ s → ⊥) → Touches memory changed t 0
  unfolding touched
  other-kept t n = same-touches memory changed t refl (λ b h. ap (λ (x : Slot). touches_block memory x b) (slot-other (with_com memory «com») s slot t n))

  module _ (there : s < length memory.slots) where
    -- the slot itself, by its new bitmap
    own-more : (blocks : List ℕ)
        → ((b : ℕ) → b < memory.blocks
        → cond (touches_block memory slot b) 1 0 ≤ cond (member b blocks) 1 0 + cond (touches_block memory (slot_at memory s) b) 1 0)
        → Touches memory changed s (length blocks)
    unfolding touched
    own-more blocks few =
        more-touches memory changed s refl blocks (λ b h. rw (slot_same (with_com memory «com») s slot there) (few b h))

    -- whichever slot it is
    either-slot : (t : ℕ) (blocks : List ℕ)
        → ((b : ℕ) → b < memory.blocks
        → cond (touches_block memory slot b) 1 0 ≤ cond (member b blocks) 1 0 + cond (touches_block memory (slot_at memory s) b) 1 0)
        → Touches memory changed t (cond (eqb s t) (length blocks) 0)
    either-slot t blocks few = go (eqb s t) refl
      where
        go : (e : Bool) → eqb s t ≡ e → Touches memory changed t (cond e (length blocks) 0)
        go true e = subst (λ (x : ℕ). Touches memory changed x (length blocks)) (eqb-true s t e) (own-more blocks few)
        go false e = other-kept t (λ q. eqb-false s t e (sym q))

-- whichever block is to be searched first, and whatever is reserved
aside-touches : (memory other : Memory) (s more cursor : ℕ) (reserves : List Reserve) → Touches memory other s more
    → Touches memory (with_reserves (with_cursor other cursor) reserves) s more
unfolding touched_by touched
aside-touches memory other s more cursor reserves t = record { few = t.few; volume = t.volume }

-- no more is no more, for one slot or another
pub none_more : {memory other : Memory} {s : ℕ} (t : Bool) → Touches memory other s (cond t 0 0) → Touches memory other s 0
none_more true k = k
none_more false k = k

no_more : {memory other : Memory} {s : ℕ} (t : Bool) → Touches memory other s 0 → Touches memory other s (cond t 0 0)
no_more true k = k
no_more false k = k

-- ---- the calls of slot s, for any slot t

module _ (memory : Memory) (s t : ℕ) (there : s < length memory.slots) where
  -- none at all, for this slot or another
  abbrev NoneMore : Memory → Type 0
  NoneMore other = Touches memory other t (cond (eqb s t) 0 0)

  pub started-touches : NoneMore (started memory s)
  unfolding started touched
  started-touches = either-slot memory s _ memory.com there t [] (λ b h. rw (xor_self (sam_bit memory b)) (omega arith))

  pub rolled-back-touches : NoneMore (rolled_back memory s)
  unfolding rolled_back
  rolled-back-touches = aside-touches memory _ t _ memory.cursor _ (either-slot memory s idle_slot _ there t [] (λ b h. omega arith))

  pub reserving-touches : (reservation : ℕ) → NoneMore (reserving memory s reservation)
  unfolding reserving
  reserving-touches reservation = aside-touches memory memory t _ memory.cursor _ (no_more (eqb s t) (record { few = omega arith; volume = refl }))

  pub precommitting-touches : is_active (slot_at memory s).state ≡ true → NoneMore (precommitting memory s)
  unfolding precommitting touched
  precommitting-touches active = either-slot memory s _ memory.com there t [] (λ b h. rw active (omega arith))

  module _ (parts : ValidParts memory) where
    pub taking-touches : (blocks : List ℕ) → Touches memory (taking memory s blocks) t (cond (eqb s t) (length blocks) 0)
    unfolding taking touched xor
    taking-touches blocks =
        aside-touches memory _ t _ _ _
        (either-slot memory s _ _ there t blocks (λ b h.
        rw (bit_below memory.blocks (λ x. member x blocks || tam_bit (slot_at memory s) x) b parts.few_blocks h)
        (go (member b blocks) (is_active (slot_at memory s).state) (tam_bit (slot_at memory s) b) (sam_bit memory b))))
      where
        go : (m active tam sam : Bool) → cond (active && xor (m || tam) sam) 1 0 ≤ cond m 1 0 + cond (active && xor tam sam) 1 0
        go m false tam sam = omega arith
        go true true tam true = omega arith
        go true true tam false = omega arith
        go false true tam sam = omega arith

    pub freeing-touches : (block : ℕ) → Touches memory (freeing memory s block) t (cond (eqb s t) 1 0)
    unfolding freeing touched xor member
    freeing-touches block =
        either-slot memory s _ _ there t (block ∷ []) (λ b h.
        rw (bit_below memory.blocks (λ x. not (eqb x block) && tam_bit (slot_at memory s) x) b parts.few_blocks h)
        (go (eqb b block) (is_active (slot_at memory s).state) (tam_bit (slot_at memory s) b) (sam_bit memory b)))
      where
        go : (m active tam sam : Bool) → cond (active && xor (not m && tam) sam) 1 0 ≤ cond (m || false) 1 0 + cond (active && xor tam sam) 1 0
        go m false tam sam = omega arith
        go true true tam true = omega arith
        go true true tam false = omega arith
        go false true tam sam = omega arith

-- ---- pending work

module _ (memory : Memory) (t : ℕ) where
  pub pending-touches : (pending : Pending) → Touches memory (with_pending memory pending) t 0
  unfolding touched
  pending-touches pending = same-touches memory (with_pending memory pending) t refl (λ b h. refl)

  -- a commit's end: its slot is idle, and every other has touched what it had
  pub committed-touches : (s : ℕ) → ValidParts memory → s < length memory.slots → is_active (slot_at memory s).state ≡ true → Touches memory (committed memory s) t 0
  unfolding committed
  committed-touches s parts there active = go (ℕ_discrete t s)
    where
      go : Dec (t ≡ s) → Touches memory (committed memory s) t 0
      go (yes e) =
          subst (λ (x : ℕ). Touches memory (committed memory s) x 0) (sym e)
          (idle-touches memory (committed memory s) s refl (ap (λ (slot : Slot). is_active slot.state) (own-idle memory s parts there active)))
      go (no n) = same-touches memory (committed memory s) t refl (λ b h. others-touch memory s parts there active b t n)
