-- No line ends in the bytes kept of one that hasn't ended.
use Prim.Native.Nat.{ℕ, zero, suc, ◌<◌}
use mathlib.Core.Path.{sym, subst, ◌∙◌}
use mathlib.Core.List.{List, [], ◌∷◌, ◌++◌}
use native.Mathlib.Omega.{arith}
use lib.ListN.{take, length-take}
use lib.Seq.{get_or-take}
use Rattle.bench_state.specs.Keep.{Keeps, kept}
use Rattle.bench_step.specs.Cut.{NoEnd}

-- no byte 10 in two lists, and in the first bytes of one
none-append : (a b : List ℕ) → NoEnd a → NoEnd b → NoEnd (a ++ b)
none-append [] b ha hb i h e = hb i h e
none-append (x ∷ a) b ha hb zero h e = ha 0 (omega arith) e
none-append (x ∷ a) b ha hb (suc i) h e = none-append a b (λ j k. ha (suc j) (omega arith)) hb i (omega arith) e

pub none-take : (n : ℕ) (a : List ℕ) → NoEnd a → NoEnd (take n a)
none-take n a h i inside e =
    let few : i < n = omega (arith, length-take n a, inside) in
    h i (omega (arith, length-take n a, inside)) (sym (get_or-take n a i 0 few) ∙ e)

-- no byte 10 in the bytes kept
module _ {part line : List ℕ} {len : ℕ} {after : List ℕ} {next : ℕ} (keeps : Keeps part line len after next) where
  pub none_kept : NoEnd (take len line) → NoEnd part → NoEnd (take next after)
  none_kept first rest =
      subst NoEnd (sym keeps.same) (none-take kept (take len line ++ part) (none-append (take len line) part first rest))
