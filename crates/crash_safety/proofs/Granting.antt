-- A grant of any available blocks keeps the invariant: they had no holder, since SAM and COM were 0 there.
use Prim.Native.Nat.{ℕ, ◌+◌, ◌≤◌, ◌<◌}
use native.Mathlib.Nat.{not-le_of_lt}
use native.Mathlib.Omega.{arith}
use mathlib.Core.Path.{◌≡◌, refl, sym, ap, ap₂, ◌∙◌}
use mathlib.Core.Bool.{Bool, true, false, not, ◌&&◌, ◌||◌, xor, cond, false≢true, or-true, or-false}
use mathlib.Core.Option.{none}
use mathlib.Core.List.{List, ◌++◌}
use lib.ListN.{length}
use Rattle.bitmap.specs.Blocks.{member}
use Rattle.bitmap.specs.Round.{after_last}
use Rattle.bitmap.proofs.Laws.Bits.{no_bits-bit, bitmap_of-bits}
use Rattle.bitmap.proofs.Laws.Blocks.{member-append}
use Rattle.model_types.specs.declared.memory.Memory.{Memory}
use Rattle.model_types.specs.declared.memory.Slot.{Slot}
use Rattle.model_types.specs.Memory.{slot_at, with_tam, is_active, sam_bit, com_bit, tam_bit, volume_bitmap}
use Rattle.model.specs.Rules.Touched.{touched}
use Rattle.model.specs.Rules.Valid.{touches}
use Rattle.model.specs.Rules.Calls.Allocate.{taking}
use Rattle.model.proofs.Laws.Calls.Accepted.{Ready}
use Rattle.model.proofs.Laws.Memory.Valid.{ValidParts, valid-parts, slot-below, touches_at, touches-one, touches_block}
use Rattle.model.proofs.Laws.Memory.Taking.{Available, AllAvailable}
use Rattle.crash_safety.specs.Ledger.{Sets, Ledger, with_taken, sets_of, with_sets, holders, takes}
use Rattle.crash_safety.specs.World.{World, world_of}
use Rattle.crash_safety.proofs.Holders.{one, one-le, takers-none}
use Rattle.crash_safety.proofs.Invariant.{Tied, Plain, Invariant}
use Rattle.crash_safety.proofs.Touching.{plain, sets-there, moving, holders-set, active-taken, active-freed}

-- ---- the slot's sets

module _ (sam : ℕ → Bool) (slot new : Slot) (sets : Sets) (blocks : List ℕ)
    (active : is_active slot.state ≡ true)
    (same : new.state ≡ slot.state)
    (set_there : (b : ℕ) → tam_bit new b ≡ (member b blocks || tam_bit slot b))
    (free : (b : ℕ) → member b blocks ≡ true → sam b ≡ false)
    (tie : Tied sam slot sets) where
  still : is_active new.state ≡ true
  still = ap is_active same ∙ active

  takes-them : (b : ℕ) (t : Bool) → member b blocks ≡ t → (member b sets.taken || t) ≡ ((t || tam_bit slot b) && not (sam b))
  takes-them b true e = or-true (member b sets.taken) ∙ sym (ap not (free b e))
  takes-them b false e = or-false (member b sets.taken) ∙ active-taken sam slot sets tie active b

  frees-none : (b : ℕ) (t : Bool) → member b blocks ≡ t → member b sets.freed ≡ (sam b && not (t || tam_bit slot b))
  frees-none b true e =
      active-freed sam slot sets tie active b
      ∙ ap (λ (t : Bool). t && not (tam_bit slot b)) (free b e)
      ∙ sym (ap (λ (t : Bool). t && false) (free b e))
  frees-none b false e = active-freed sam slot sets tie active b

  taken-tie : Tied sam new (with_taken sets (sets.taken ++ blocks))
  taken-tie =
      record {
        taken = λ b.
            member-append b sets.taken blocks
            ∙ takes-them b (member b blocks) refl
            ∙ sym (ap (λ (t : Bool). t && (tam_bit new b && not (sam b))) still ∙ ap (λ (t : Bool). t && not (sam b)) (set_there b));
        freed = λ b.
            frees-none b (member b blocks) refl
            ∙ sym (ap (λ (t : Bool). t && (sam b && not (tam_bit new b))) still ∙ ap (λ (t : Bool). sam b && not t) (set_there b));
      }

-- ---- holders

-- what a slot has touched where SAM is 0 it has taken
taken-touched : (active tam sam : Bool) → sam ≡ false → (active && xor tam sam) ≡ (active && (tam && not sam))
unfolding xor
taken-touched active true true e = refl
taken-touched active true false e = refl
taken-touched active false true e = absurd (false≢true (sym e))
taken-touched active false false e = refl

module _ (memory : Memory) (ledger : Ledger) (b : ℕ) (parts : ValidParts memory) (tied : Plain memory ledger none) (g : Available memory b) where
  -- no slot has touched a block with SAM 0 and COM 0
  none-there : touches memory b memory.slots ≡ 0
  unfolding xor
  none-there =
      touches_at memory b parts.touches_fit g.below
      ∙ ap₂ (λ (x y : Bool). cond (xor x y) 1 0) g.free g.unused

  -- so none has taken it
  untaken : (t : ℕ) → member b (sets_of ledger t).taken ≡ false
  unfolding touched
  untaken t = go (member b (sets_of ledger t).taken) refl
    where
      slot : Slot
      slot = slot_at memory t

      counted : member b (sets_of ledger t).taken ≡ true → touches_block memory slot b ≡ true
      counted e = taken-touched (is_active slot.state) (tam_bit slot b) (sam_bit memory b) g.free ∙ sym ((tied.slots t).taken b) ∙ e

      go : (u : Bool) → member b (sets_of ledger t).taken ≡ u → member b (sets_of ledger t).taken ≡ false
      go true e = absurd (not-le_of_lt (touches-one memory b memory.slots t (counted e)) (omega (arith, none-there)))
      go false e = e

  -- an available block has no holder
  pub unheld : holders ledger b ≡ 0
  unfolding holders
  unheld =
      let free : one (member b ledger.allocated) ≡ 0 = ap one (sym (tied.finds b) ∙ g.free) in
      omega (arith, free, takers-none b ledger.slots untaken)

-- so the slot becomes its only holder
one-taker : (ledger : Ledger) (s b : ℕ) (blocks : List ℕ)
    → s < length ledger.slots
    → holders ledger b ≤ 1
    → (member b blocks ≡ true → holders ledger b ≡ 0)
    → holders (takes ledger s blocks) b ≤ 1
unfolding takes
one-taker ledger s b blocks h k none-held = go (member b blocks) refl
  where
    before : Bool
    before = member b (sets_of ledger s).taken

    own : Sets
    own = with_taken (sets_of ledger s) ((sets_of ledger s).taken ++ blocks)

    change : holders (with_sets ledger s own) b + one before ≡ holders ledger b + one (before || member b blocks)
    change = holders-set ledger s b own h ∙ ap (λ (t : Bool). holders ledger b + one t) (member-append b (sets_of ledger s).taken blocks)

    go : (t : Bool) → member b blocks ≡ t → holders (with_sets ledger s own) b ≤ 1
    go true e = omega (arith, change, none-held e, one-le (before || member b blocks))
    go false e = omega (arith, change, ap one (ap (λ (t : Bool). before || t) e ∙ or-false before), k)

-- ---- a grant

none_from : (memory : Memory) (s : ℕ) (blocks : List ℕ) → AllAvailable memory blocks → ValidParts memory
    → (b : ℕ)
    → memory.blocks ≤ b
    → (member b blocks || tam_bit (slot_at memory s) b) ≡ false
none_from memory s blocks all parts b h = go (member b blocks) refl
  where
    go : (t : Bool) → member b blocks ≡ t → (t || tam_bit (slot_at memory s) b) ≡ false
    go true e = absurd (not-le_of_lt (all b e).below h)
    go false e = no_bits-bit memory.blocks (slot_at memory s).tam.words b (slot-below memory s parts) h

pub grant-keeps : (w : World) (s : ℕ) (blocks : List ℕ)
    → Invariant w
    → Ready w.memory s
    → is_active (slot_at w.memory s).state ≡ true
    → AllAvailable w.memory blocks
    → Invariant (world_of (taking w.memory s blocks) w.disk (takes w.ledger s blocks))
unfolding taking takes
grant-keeps w s blocks i ready active all =
    moving w s i ready (after_last w.memory.blocks w.memory.cursor blocks) _ new (volume_bitmap w.memory (λ b. member b blocks || com_bit w.memory b))
    (with_taken (sets_of w.ledger s) ((sets_of w.ledger s).taken ++ blocks))
    (taken-tie (sam_bit w.memory) slot new (sets_of w.ledger s) blocks active refl
    (bitmap_of-bits w.memory.blocks (λ b. member b blocks || tam_bit slot b) parts.few_blocks (none_from w.memory s blocks all parts))
    (λ b m. (all b m).free)
    (tied.slots s))
    (λ b. one-taker w.ledger s b blocks (sets-there w s i ready) (i.one_holder b) (λ m. unheld w.memory w.ledger b parts tied (all b m)))
  where
    parts : ValidParts w.memory
    parts = valid-parts w.memory ready.is_valid

    tied : Plain w.memory w.ledger none
    tied = plain w s i ready

    slot : Slot
    slot = slot_at w.memory s

    new : Slot
    new = with_tam slot (volume_bitmap w.memory (λ b. member b blocks || tam_bit slot b))
