-- Words made anew one after the other: the first k are new, the others are as they were.
use Prim.Native.Nat.{ℕ, ◌+◌, ◌≤◌, ◌<◌}
use native.Mathlib.Decide.{ℕ_discrete}
use native.Mathlib.Omega.{arith}
use mathlib.Core.Path.{◌≡◌, refl, sym, ap, ◌∙◌}
use mathlib.Core.Bool.{Bool, true, false, cond}
use mathlib.Core.List.{List}
use lib.ListN.{length, get_or, set, length-set}
use lib.Seq.{get_or-set_same, get_or-set_other}
use lib.Dec.{ltb}
use borrow.Author.Tests.{ltb-true, ltb-false, lt-ltb, le-ltb}
use Rattle.extents.specs.Starts.{start_words}

pub record Renewed (k : ℕ) (new : ℕ → ℕ) (old words : List ℕ) : Type 0 where
  pub size : length words ≡ start_words
  pub word : (j : ℕ) → get_or words j 0 ≡ cond (ltb j k) (new j) (get_or old j 0)

module _ {k : ℕ} {new : ℕ → ℕ} {old words : List ℕ} (so : Renewed k new old words) where
  pub renewed-before : (j : ℕ) → j < k → get_or words j 0 ≡ new j
  renewed-before j h = so.word j ∙ ap (λ (t : Bool). cond t (new j) (get_or old j 0)) (lt-ltb j k h)

  pub renewed-from : (j : ℕ) → k ≤ j → get_or words j 0 ≡ get_or old j 0
  renewed-from j h = so.word j ∙ ap (λ (t : Bool). cond t (new j) (get_or old j 0)) (le-ltb j k h)

  -- one more
  pub renewed-more : (v : ℕ) → k < start_words → v ≡ new k → Renewed (k + 1) new old (set words k v)
  renewed-more v within e =
      record {
        size = length-set words k v ∙ so.size;
        word = λ j. go j (ℕ_discrete j k);
      }
    where
      next : ℕ → Bool → ℕ
      next j t = cond t (new j) (get_or old j 0)

      go : (j : ℕ) → Dec (j ≡ k) → get_or (set words k v) j 0 ≡ cond (ltb j (k + 1)) (new j) (get_or old j 0)
      go j (yes q) =
          ap (λ (x : ℕ). get_or (set words k v) x 0) q
          ∙ get_or-set_same words k v 0 (omega (arith, so.size))
          ∙ e
          ∙ sym (ap new q)
          ∙ ap (next j) (sym (lt-ltb j (k + 1) (omega arith)))
      go j (no q) = get_or-set_other words k j v 0 q ∙ so.word j ∙ ap (next j) (same (ltb j k) refl)
        where
          same : (t : Bool) → ltb j k ≡ t → ltb j k ≡ ltb j (k + 1)
          same true f = f ∙ sym (lt-ltb j (k + 1) (omega (arith, ltb-true j k f)))
          same false f = f ∙ sym (le-ltb j (k + 1) (omega (arith, ltb-false j k f)))
