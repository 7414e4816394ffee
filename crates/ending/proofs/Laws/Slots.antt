-- Lists of slots made new from the front.
use Prim.Native.Nat.{ℕ, zero, suc, ◌+◌, ◌<◌}
use mathlib.Core.Path.{◌≡◌, refl, ap, ◌∙◌}
use mathlib.Core.List.{List, [], ◌∷◌, ◌++◌, map}
use native.Mathlib.Omega.{arith}
use lib.ListN.{length, get_or, set, take, drop, length-append, length-map, length-take, length-drop}
use Rattle.std.proofs.lemmas.List.{get_or_default}
use Rattle.std.proofs.lemmas.List.Edits.{map_over_more}
use Rattle.model_types.specs.declared.memory.Slot.{Slot}

-- the first i slots made new, the others as they were
abbrev pub made_first : (Slot → Slot) → ℕ → List Slot → List Slot
made_first f i slots = map f (take i slots) ++ drop i slots

module _ (f : Slot → Slot) (first slots : List Slot) (i : ℕ) (made : slots ≡ made_first f i first) where
  -- with the next one made new, one more is
  pub one-more : (d slot : Slot) → i < length first → slot ≡ f (get_or slots i d) → set slots i slot ≡ made_first f (i + 1) first
  one-more d slot h e =
      let there : i < length slots =
      omega (arith, ap length made, simp (length-append, length-map, length-take, length-drop) at (ap length made)) in
      ap (set slots i) e ∙ map_over_more f first slots i (get_or slots i d) h made (get_or_default slots i d (get_or slots i d) there)

-- what is stored before all are made new is made new with them
pub map-set : (f : Slot → Slot) (slots : List Slot) (s : ℕ) (slot : Slot) → map f (set slots s slot) ≡ set (map f slots) s (f slot)
map-set f [] s slot = refl
map-set f (x ∷ slots) zero slot = refl
map-set f (x ∷ slots) (suc s) slot = ap (λ (rest : List Slot). f x ∷ rest) (map-set f slots s slot)
