-- The available blocks that a memory's test has counted, as the causes behind it use them.
use Prim.Native.Nat.{ℕ, ◌-◌, ◌≤◌}
use native.Mathlib.Omega.{arith}
use mathlib.Core.Path.{◌≡◌, refl, sym, ap, ◌∙◌}
use mathlib.Core.Bool.{Bool, true, false, cond}
use mathlib.Core.List.{[], ◌∷◌}
use lib.ListN.{length}
use lib.Dec.{ltb, eqb}
use borrow.Author.Tests.{eqb-true, le-ltb}
use Rattle.std.specs.Prelude.{Option, Some, None}
use Rattle.std.specs.Option.{unwrap_or}
use Rattle.model_types.specs.declared.error.Error.TheVariants.{ReservedForOthers}
use Rattle.model_types.specs.declared.memory.Memory.{Memory}
use Rattle.model.specs.Rules.First.{◌⇒◌}
use Rattle.model.specs.Rules.Available.{available}
use Rattle.model.specs.Rules.Causes.{of_available, reserved_for_others}
use Rattle.model.specs.Rules.CauseLists.{spare_causes}
use Rattle.model.specs.Rules.Reserves.{total_reserved, others_reserved}
use Rattle.model.specs.Rules.Valid.{valid}
use Rattle.model.proofs.Laws.Memory.Valid.{valid-parts}
use Rattle.model.proofs.Laws.Memory.Reserves.{total-split}
use Rattle.validity.specs.Checked.{counted_for}
use Rattle.causes.specs.Known.{CanCount}

module _ (memory : Memory) where
  -- a number that was counted is theirs
  pub counted-is : (n : ℕ) → counted_for memory ≡ Some n → n ≡ length (available memory)
  counted-is n e = go (eqb (total_reserved memory.reserves) 0) e
    where
      go : (t : Bool) → cond t None (Some (length (available memory))) ≡ Some n → n ≡ length (available memory)
      go true e = cc
      go false e = cc

  pub can-count : {counted : Option ℕ} → counted ≡ counted_for memory → valid memory ≡ true → CanCount counted memory
  can-count e v = record { few = (valid-parts memory v).few_blocks; counted_is = λ n f. counted-is n (sym e ∙ f) }

  -- where nothing was counted nothing is reserved, and so nothing for others: any number will do
  pub spared-same : {counted : Option ℕ} (s count : ℕ) → counted ≡ counted_for memory
      → spare_causes (unwrap_or counted 0) count (others_reserved memory.reserves s) ≡ of_available spare_causes memory count (others_reserved memory.reserves s)
  unfolding reserved_for_others
  spared-same s count e =
      ap (λ (counted : Option ℕ). spare_causes (unwrap_or counted 0) count (others_reserved memory.reserves s)) e
      ∙ go (eqb (total_reserved memory.reserves) 0) refl
    where
      go : (t : Bool) → eqb (total_reserved memory.reserves) 0 ≡ t
          → spare_causes (unwrap_or (cond t None (Some (length (available memory)))) 0) count (others_reserved memory.reserves s)
          ≡ of_available spare_causes memory count (others_reserved memory.reserves s)
      go true f =
          let none-reserved : others_reserved memory.reserves s ≤ 0 = omega (arith, total-split memory.reserves s, eqb-true (total_reserved memory.reserves) 0 f) in
          let not-fewer : (n : ℕ) → ltb (n - count) (others_reserved memory.reserves s) ≡ false =
          λ n. le-ltb (n - count) (others_reserved memory.reserves s) (omega (arith, none-reserved)) in
          ap (λ (t : Bool). t ⇒ ReservedForOthers ∷ []) (not-fewer 0 ∙ sym (not-fewer (length (available memory))))
      go false f = refl
