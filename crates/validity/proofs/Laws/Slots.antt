-- Bools that are one, a test of every slot, and the shape of a bare memory.
use Prim.Native.Nat.{ℕ, suc, ◌≤◌, ◌<◌, suc-le-suc, zero-le}
use mathlib.Core.Path.{◌≡◌, refl, sym}
use mathlib.Core.Bool.{Bool, true, false}
use mathlib.Core.List.{List, [], ◌∷◌}
use lib.ListN.{length, get_or}
use Rattle.std.specs.Prelude.{All, IsTrue, ◌↔◌}
use Rattle.std.proofs.Common.{rules}
use Rattle.std.proofs.lemmas.List.Elements.{All-get_or, All-cons}
use Rattle.model_types.specs.declared.memory.Slot.{Slot}
use Rattle.model_types.specs.declared.memory.Memory.{Memory}
use Rattle.model_types.specs.Memory.{idle_slot}
use Rattle.model.specs.Rules.Valid.{all_slots, valid}
use Rattle.model.proofs.Laws.Disk.Writes.{and_both, and_first, and_second}
use Rattle.model.proofs.Laws.Memory.Valid.{valid-parts}
use Rattle.bitmap.specs.Sizes.{max_blocks}
use Rattle.model_types.specs.Shape.{HasShape}
use Rattle.validity.specs.Checked.{bare}

-- two Bools are one if each is true where the other is
pub bool-ext : (a b : Bool) → (a ≡ true → b ≡ true) → (b ≡ true → a ≡ true) → a ≡ b
bool-ext true b f g = sym (f refl)
bool-ext false true f g = g refl
bool-ext false false f g = refl

-- a Bool that can't be true is false
pub not-true-false : (a : Bool) → (a ≡ true → ⊥) → false ≡ a
not-true-false true f = absurd (f refl)
not-true-false false f = refl

-- a test that holds of each slot holds of all
pub all_slots-all : (test : Slot → Bool) (slots : List Slot) → ((s : ℕ) → s < length slots → test (get_or slots s idle_slot) ≡ true)
    → all_slots test slots ≡ true
unfolding all_slots
all_slots-all test [] h = refl
all_slots-all test (slot ∷ slots) h = and_both (h 0 (suc-le-suc zero-le)) (all_slots-all test slots (λ s l. h (suc s) (suc-le-suc l)))

all_slots-each : (test : Slot → Bool) (slots : List Slot) → all_slots test slots ≡ true → All (λ slot. IsTrue (test slot)) slots
unfolding all_slots
all_slots-each test [] h = search rules
all_slots-each test (slot ∷ slots) h =
    All-cons (λ slot. IsTrue (test slot)) slot slots (and_first (test slot) _ h) (all_slots-each test slots (and_second (test slot) _ h))

-- the library's test of each slot is the same
pub all_slots-is : (test : Slot → Bool) (slots : List Slot) (r : Bool) → IsTrue r ↔ All (λ slot. IsTrue (test slot)) slots → r ≡ all_slots test slots
all_slots-is test slots r each =
    bool-ext r (all_slots test slots)
    (λ h. all_slots-all test slots (λ s l. All-get_or (λ slot. IsTrue (test slot)) slots s idle_slot l (each.0 h)))
    (λ h. each.1 (all_slots-each test slots h))

-- what a memory has in its bitmaps and slots, the bare one has
pub bare-shaped : {memory : Memory} → HasShape memory → HasShape (bare memory)
bare-shaped shape = record { sam = shape.sam; «com» = shape.com; slots = shape.slots; tam = shape.tam; reserves = refl }

-- its volume has no more blocks than any
pub few_blocks : (memory : Memory) → valid (bare memory) ≡ true → memory.blocks ≤ max_blocks
few_blocks memory maps = (valid-parts (bare memory) maps).few_blocks
