-- The loop over the bitmap words of a commit that change: one word more, and the end.
use Prim.Native.Nat.{ℕ, suc, ◌+◌}
use mathlib.Core.Path.{◌≡◌, refl}
use mathlib.Core.Bool.{Bool, true, false, cond, ◌&&◌}
use mathlib.Core.List.{List, [], ◌∷◌}
use native.Mathlib.Numerals.{add-one}
use native.Mathlib.Omega.{arith}
use lib.ListN.{length}
use lib.Dec.{eqb}
use borrow.Author.Tests.{eq-eqb, ne_eqb}
use Rattle.model.specs.Rules.Stores.{Store, ◌≔◌, changes_from}
use Rattle.disk_match.specs.Matching.{word_matches, changed_match}

module _ (disk : List ℕ) (done checkpointed : ℕ) where
  -- a word that stays is passed
  pub changed-pass : (k i : ℕ) {was will : ℕ} {olds news os ns : List ℕ} → olds ≡ was ∷ os → news ≡ will ∷ ns → was ≡ will
      → changed_match disk done checkpointed k i olds news ≡ changed_match disk done checkpointed (k + 1) i os ns
  unfolding changed_match
  changed-pass k i {was} {will} o n e = rw (o, n, add-one k, eq-eqb was will e)

  -- one that changes is tested, and then those behind it
  pub changed-test : (k i : ℕ) {was will : ℕ} {olds news os ns : List ℕ} {matches : Bool} → olds ≡ was ∷ os → news ≡ will ∷ ns → (was ≡ will → ⊥)
      → matches ≡ word_matches disk done checkpointed k i was will
      → changed_match disk done checkpointed k i olds news ≡ (matches && changed_match disk done checkpointed (k + 1) (i + 1) os ns)
  unfolding changed_match
  changed-test k i {was} {will} o n ne m = rw (o, n, add-one k, ne_eqb was will ne, m)

  -- where none is left nothing is asked
  pub changed-end : (k i : ℕ) (olds news : List ℕ) → length (changes_from k olds news) ≡ 0 → changed_match disk done checkpointed k i olds news ≡ true
  unfolding changed_match changes_from
  changed-end k i [] news e = refl
  changed-end k i (old ∷ olds) [] e = refl
  changed-end k i (old ∷ olds) (new ∷ news) e = go (eqb old new) e (changed-end (suc k) i olds news)
    where
      later : List Store
      later = changes_from (suc k) olds news

      rest : ℕ → Bool
      rest j = changed_match disk done checkpointed (suc k) j olds news

      go : (t : Bool) → length (cond t later (k ≔ new ∷ later)) ≡ 0 → (length later ≡ 0 → rest i ≡ true)
          → cond t (rest i) (word_matches disk done checkpointed k i old new && rest (i + 1)) ≡ true
      go true q ih = ih q
      go false q ih = absurd (omega arith)
