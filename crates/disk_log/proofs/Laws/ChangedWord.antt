-- The changed words of two lists, by their first: a word that stays is passed, one that changes is the next.
use Prim.Native.Nat.{ℕ, ◌+◌}
use mathlib.Core.Path.{◌≡◌, refl}
use mathlib.Core.List.{List, [], ◌∷◌}
use native.Mathlib.Numerals.{add-one}
use native.Mathlib.Nat.{suc-ne-zero}
use lib.ListN.{length}
use borrow.Author.Tests.{eq-eqb, ne_eqb}
use Rattle.model.specs.Rules.Stores.{◌≔◌, changes_from}

pub word-stays : (k : ℕ) {was will : ℕ} {olds news os ns : List ℕ} → olds ≡ was ∷ os → news ≡ will ∷ ns → was ≡ will
    → changes_from k olds news ≡ changes_from (k + 1) os ns
unfolding changes_from
word-stays k {was} {will} o n e = rw (o, n, add-one k, eq-eqb was will e)

pub word-changes : (k : ℕ) {was will : ℕ} {olds news os ns : List ℕ} → olds ≡ was ∷ os → news ≡ will ∷ ns → (was ≡ will → ⊥)
    → changes_from k olds news ≡ k ≔ will ∷ changes_from (k + 1) os ns
unfolding changes_from
word-changes k {was} {will} o n ne = rw (o, n, add-one k, ne_eqb was will ne)

-- where no word is, none changes
pub no-old : (k : ℕ) (olds news : List ℕ) → length olds ≡ 0 → length (changes_from k olds news) ≡ 0
unfolding changes_from
no-old k [] news e = refl
no-old k (old ∷ olds) news e = absurd (suc-ne-zero (length olds) e)

pub no-new : (k : ℕ) (olds news : List ℕ) → length news ≡ 0 → length (changes_from k olds news) ≡ 0
unfolding changes_from
no-new k [] news e = refl
no-new k (old ∷ olds) [] e = refl
no-new k (old ∷ olds) (new ∷ news) e = absurd (suc-ne-zero (length news) e)
