-- The ledger's holders: how the number of takers of a block goes with one slot's set.
use Prim.Native.Nat.{ℕ, zero, suc, ◌+◌, ◌≤◌, ◌<◌}
use native.Mathlib.Nat.{not-suc-le-zero, le_of_suc-le-suc}
use native.Mathlib.Omega.{arith}
use mathlib.Core.Path.{◌≡◌, refl, sym, ap, ◌∙◌}
use mathlib.Core.Bool.{Bool, true, false, not, cond, ◌&&◌, ◌||◌, and-false}
use mathlib.Core.List.{List, [], ◌∷◌, map}
use lib.ListN.{length, get_or, set}
use lib.Dec.{eqb}
use borrow.Author.Tests.{eqb-true}
use Rattle.bitmap.specs.Blocks.{member}
use Rattle.crash_safety.specs.Ledger.{Sets, no_sets, crashed_sets, without, takers}
pub use Rattle.model.proofs.Laws.Touched.Touches.{one}

pub one-le : (t : Bool) → one t ≤ 1
one-le true = omega arith
one-le false = omega arith

-- a slot's taken changes: the takers of a block change by it alone
pub takers-set : (b s : ℕ) (slots : List Sets) (sets : Sets)
    → s < length slots
    → takers b (set slots s sets) + one (member b (get_or slots s no_sets).taken) ≡ takers b slots + one (member b sets.taken)
unfolding takers
takers-set b s [] sets h = absurd (not-suc-le-zero h)
takers-set b zero (own ∷ slots) sets h = omega arith
takers-set b (suc s) (own ∷ slots) sets h =
    let ih : takers b (set slots s sets) + one (member b (get_or slots s no_sets).taken) ≡ takers b slots + one (member b sets.taken) =
    takers-set b s slots sets (le_of_suc-le-suc h) in
    omega arith

-- a block that no slot has taken has no taker
pub takers-none : (b : ℕ) (slots : List Sets) → ((s : ℕ) → member b (get_or slots s no_sets).taken ≡ false) → takers b slots ≡ 0
unfolding takers
takers-none b [] h = refl
takers-none b (own ∷ slots) h =
    let ih : takers b slots ≡ 0 = takers-none b slots (λ s. h (suc s)) in
    let e : one (member b own.taken) ≡ 0 = ap one (h 0) in
    omega arith

-- after a crash no slot has any sets,
pub crashed-sets : (slots : List Sets) (t : ℕ) → get_or (map crashed_sets slots) t no_sets ≡ no_sets
unfolding crashed_sets
crashed-sets [] t = refl
crashed-sets (own ∷ slots) zero = refl
crashed-sets (own ∷ slots) (suc t) = crashed-sets slots t

-- so none has taken anything
pub takers-crashed : (b : ℕ) (slots : List Sets) → takers b (map crashed_sets slots) ≡ 0
unfolding member
takers-crashed b slots = takers-none b (map crashed_sets slots) (λ t. ap (λ (sets : Sets). member b sets.taken) (crashed-sets slots t))

-- of a list without some blocks
pub member-without : (b : ℕ) (blocks gone : List ℕ) → member b (without blocks gone) ≡ (member b blocks && not (member b gone))
unfolding member without
member-without b [] gone = refl
member-without b (x ∷ blocks) gone = go (member x gone) refl (eqb b x) refl (member-without b blocks gone)
  where
    rest : ℕ → Bool
    rest y = member y gone

    go : (t : Bool) → member x gone ≡ t → (u : Bool) → eqb b x ≡ u
        → member b (without blocks gone) ≡ (member b blocks && not (member b gone))
        → member b (cond t (without blocks gone) (x ∷ without blocks gone)) ≡ ((u || member b blocks) && not (member b gone))
    go true e true f ih =
        let g : member b gone ≡ true = ap rest (eqb-true b x f) ∙ e in
        ih ∙ ap (λ (t : Bool). member b blocks && not t) g ∙ and-false (member b blocks) ∙ ap not (sym g)
    go true e false f ih = ih
    go false e true f ih =
        let g : member b gone ≡ false = ap rest (eqb-true b x f) ∙ e in
        ap (λ (t : Bool). t || member b (without blocks gone)) f ∙ ap not (sym g)
    go false e false f ih = ap (λ (t : Bool). t || member b (without blocks gone)) f ∙ ih
