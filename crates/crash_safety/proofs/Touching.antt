-- What start, allocate, deallocate, precommit, drop and revoke have in common: one slot changes, COM and, with a grant, the cursor,
-- and what is reserved; the slot's sets in the ledger go with it.
use Prim.Native.Nat.{ℕ, ◌+◌, ◌≤◌, ◌<◌}
use native.Mathlib.Decide.{ℕ_discrete}
use native.Mathlib.Omega.{arith}
use mathlib.Core.Path.{◌≡◌, refl, sym, ap, ◌∙◌, subst, subst₂}
use mathlib.Core.Bool.{Bool, true, not, ◌&&◌}
use mathlib.Core.Option.{none}
use mathlib.Core.List.{List}
use lib.ListN.{length, get_or, set, length-set}
use lib.Seq.{get_or-set_same, get_or-set_other, set-get_or}
use Rattle.bitmap.specs.declared.Bitmap.{Bitmap}
use Rattle.bitmap.specs.Blocks.{member}
use Rattle.model_types.specs.declared.memory.Memory.{Memory}
use Rattle.model_types.specs.declared.memory.Slot.{Slot}
use Rattle.model_types.specs.declared.memory.Reserve.{Reserve}
use Rattle.model_types.specs.Memory.{with_cursor, with_com, with_slot, with_reserves, idle_slot, is_active, sam_bit, tam_bit}
use Rattle.model.proofs.Laws.Memory.Fields.{slots_length}
use Rattle.model.proofs.Laws.Calls.Accepted.{Ready}
use Rattle.crash_safety.specs.Ledger.{Sets, no_sets, Ledger, sets_of, with_all_sets, with_sets, holders}
use Rattle.crash_safety.specs.World.{World, world_of}
use Rattle.crash_safety.proofs.Holders.{one, takers-set}
use Rattle.crash_safety.proofs.Invariant.{Tied, Plain, PendingTied, Related, Invariant, same-disk}

-- one slot and its sets change
retied : (sam : ℕ → Bool) (slots : List Slot) (sets : List Sets) (s : ℕ) (slot : Slot) (own : Sets)
    → s < length slots
    → s < length sets
    → Tied sam slot own
    → ((t : ℕ) → Tied sam (get_or slots t idle_slot) (get_or sets t no_sets))
    → (t : ℕ)
    → Tied sam (get_or (set slots s slot) t idle_slot) (get_or (set sets s own) t no_sets)
retied sam slots sets s slot own h k new old t = go (ℕ_discrete t s)
  where
    go : Dec (t ≡ s) → Tied sam (get_or (set slots s slot) t idle_slot) (get_or (set sets s own) t no_sets)
    go (yes e) =
        subst (λ (x : ℕ). Tied sam (get_or (set slots s slot) x idle_slot) (get_or (set sets s own) x no_sets)) (sym e)
        (subst₂ (Tied sam) (sym (get_or-set_same slots s slot idle_slot h)) (sym (get_or-set_same sets s own no_sets k)) new)
    go (no n) = subst₂ (Tied sam) (sym (get_or-set_other slots s t slot idle_slot n)) (sym (get_or-set_other sets s t own no_sets n)) (old t)

module _ (w : World) (s : ℕ) (i : Invariant w) (ready : Ready w.memory s) where
  pub related : Related w.memory w.ledger
  related = i.related ready.is_valid

  -- nothing is pending
  pub plain : Plain w.memory w.ledger none
  plain = subst (PendingTied w.memory w.ledger) ready.none_pending related.pending

  -- the slot has its sets
  pub sets-there : s < length w.ledger.slots
  sets-there = omega (arith, i.slots, ready.below)

  -- the cursor may move too, and the reserves change
  pub moving : (cursor : ℕ) (reserves : List Reserve) (slot : Slot) («com» : Bitmap) (own : Sets)
      → Tied (sam_bit w.memory) slot own
      → ((b : ℕ) → holders (with_sets w.ledger s own) b ≤ 1)
      → Invariant (world_of (with_reserves (with_cursor (with_slot (with_com w.memory «com») s slot) cursor) reserves) w.disk (with_sets w.ledger s own))
  moving cursor reserves slot «com» own new holding =
      same-disk w memory ledger i refl holding (length-set w.ledger.slots s own ∙ i.slots)
      (λ _.
      record {
        sam = related.sam;
        slots = slots_length w.memory s slot ∙ related.slots;
        pending = subst (PendingTied memory ledger) (sym ready.none_pending) after;
      })
    where
      memory : Memory
      memory = with_reserves (with_cursor (with_slot (with_com w.memory «com») s slot) cursor) reserves

      ledger : Ledger
      ledger = with_sets w.ledger s own

      there : s < length w.memory.slots
      there = omega (arith, related.slots, ready.below)

      after : Plain memory ledger none
      after =
          record {
            finds = plain.finds;
            slots = retied (sam_bit w.memory) w.memory.slots w.ledger.slots s slot own there sets-there new plain.slots;
            counted = plain.counted;
          }

  -- the same where both stay
  pub touching : (slot : Slot) («com» : Bitmap) (own : Sets)
      → Tied (sam_bit w.memory) slot own
      → ((b : ℕ) → holders (with_sets w.ledger s own) b ≤ 1)
      → Invariant (world_of (with_slot (with_com w.memory «com») s slot) w.disk (with_sets w.ledger s own))
  touching = moving w.memory.cursor w.memory.reserves

  -- and COM and the ledger too
  pub touching-alone : (slot : Slot)
      → Tied (sam_bit w.memory) slot (sets_of w.ledger s)
      → Invariant (world_of (with_slot w.memory s slot) w.disk w.ledger)
  touching-alone slot new =
      subst
      (λ (l : Ledger). Invariant (world_of (with_slot w.memory s slot) w.disk l))
      same
      (touching slot w.memory.com (sets_of w.ledger s) new (λ b. subst (λ (l : Ledger). holders l b ≤ 1) (sym same) (i.one_holder b)))
    where
      same : with_sets w.ledger s (sets_of w.ledger s) ≡ w.ledger
      same = ap (with_all_sets w.ledger) (set-get_or w.ledger.slots s no_sets)

-- the holders of a block when slot s has other sets
pub holders-set : (ledger : Ledger) (s b : ℕ) (own : Sets)
    → s < length ledger.slots
    → holders (with_sets ledger s own) b + one (member b (sets_of ledger s).taken) ≡ holders ledger b + one (member b own.taken)
unfolding holders
holders-set ledger s b own h = omega (arith, takers-set b s ledger.slots own h)

-- the slot's tie, before a call, where the slot is known to be active
module _ (sam : ℕ → Bool) (slot : Slot) (sets : Sets) (tie : Tied sam slot sets) (e : is_active slot.state ≡ true) (b : ℕ) where
  pub active-taken : member b sets.taken ≡ (tam_bit slot b && not (sam b))
  active-taken = tie.taken b ∙ ap (λ (t : Bool). t && (tam_bit slot b && not (sam b))) e

  pub active-freed : member b sets.freed ≡ (sam b && not (tam_bit slot b))
  active-freed = tie.freed b ∙ ap (λ (t : Bool). t && (sam b && not (tam_bit slot b))) e
