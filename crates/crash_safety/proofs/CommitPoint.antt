-- The commit point in the ledger: A loses what the slot gave back and gains what it took.
use Prim.Native.Nat.{ℕ, ◌+◌, ◌≤◌, ◌<◌}
use native.Mathlib.Omega.{arith}
use mathlib.Core.Path.{◌≡◌, refl, sym, ap, ap₂, ◌∙◌, subst}
use mathlib.Core.Bool.{Bool, true, false, not, ◌&&◌, ◌||◌}
use mathlib.Core.Option.{Option}
use mathlib.Core.List.{List, ◌++◌}
use lib.ListN.{length, set}
use Rattle.bitmap.specs.Blocks.{member}
use Rattle.bitmap.proofs.Laws.Blocks.{member-append}
use Rattle.model_types.specs.declared.memory.Memory.{Memory}
use Rattle.model_types.specs.Memory.{slot_at, is_active, sam_bit, tam_bit}
use Rattle.crash_safety.specs.Ledger.{no_sets, Ledger, Counting, sets_of, without, commits, holders, takers}
use Rattle.crash_safety.proofs.Holders.{one, one-le, takers-set, member-without}
use Rattle.crash_safety.proofs.Invariant.{Plain}
use Rattle.crash_safety.proofs.Touching.{active-taken, active-freed}

-- the blocks of A after it
commits-member : (ledger : Ledger) (s b : ℕ)
    → member b (commits ledger s).allocated
    ≡ ((member b ledger.allocated && not (member b (sets_of ledger s).freed)) || member b (sets_of ledger s).taken)
unfolding commits
commits-member ledger s b =
    member-append b (without ledger.allocated (sets_of ledger s).freed) (sets_of ledger s).taken
    ∙ ap (λ (t : Bool). t || member b (sets_of ledger s).taken) (member-without b ledger.allocated (sets_of ledger s).freed)

by_bits : (sam tam : Bool) → ((sam && not (sam && not tam)) || (tam && not sam)) ≡ tam
by_bits true true = refl
by_bits true false = refl
by_bits false true = refl
by_bits false false = refl

-- they are those of the slot's bitmap
pub commits-tam : (memory : Memory) (ledger : Ledger) (counting : Option Counting) (s : ℕ)
    → is_active (slot_at memory s).state ≡ true
    → Plain memory ledger counting
    → (b : ℕ)
    → member b (commits ledger s).allocated ≡ tam_bit (slot_at memory s) b
commits-tam memory ledger counting s active plain b =
    commits-member ledger s b
    ∙ ap₂ ◌||◌
    (ap₂ (λ (x y : Bool). x && not y)
    (sym (plain.finds b))
    (active-freed (sam_bit memory) (slot_at memory s) (sets_of ledger s) (plain.slots s) active b))
    (active-taken (sam_bit memory) (slot_at memory s) (sets_of ledger s) (plain.slots s) active b)
    ∙ by_bits (sam_bit memory b) (tam_bit (slot_at memory s) b)

at_most : (x y z : Bool) → x ≡ false → one ((y && z) || x) ≤ one y
at_most x true true e = omega arith
at_most x true false e = subst (λ (t : Bool). one t ≤ 1) (sym e) (omega arith)
at_most x false z e = subst (λ (t : Bool). one t ≤ 0) (sym e) (omega arith)

-- each block that the slot took passes from the slot to A
pub commits-holders : (ledger : Ledger) (s b : ℕ) → s < length ledger.slots → holders ledger b ≤ 1 → holders (commits ledger s) b ≤ 1
unfolding holders commits member
commits-holders ledger s b h k = go (member b (sets_of ledger s).taken) refl
  where
    after : List ℕ
    after = without ledger.allocated (sets_of ledger s).freed ++ (sets_of ledger s).taken

    change : takers b (set ledger.slots s no_sets) + one (member b (sets_of ledger s).taken) ≡ takers b ledger.slots + 0
    change = takers-set b s ledger.slots no_sets h

    go : (t : Bool) → member b (sets_of ledger s).taken ≡ t → one (member b after) + takers b (set ledger.slots s no_sets) ≤ 1
    go true e = omega (arith, change, ap one e, one-le (member b after), k)
    go false e =
        omega (
          arith,
          change,
          ap one e,
          k,
          ap one (commits-member ledger s b),
          at_most (member b (sets_of ledger s).taken) (member b ledger.allocated) (not (member b (sets_of ledger s).freed)) e,
        )
