-- A word at the front of some bytes, by what `strip_prefix` tests.
use Rattle.std.proofs.Common.{ℕ, ◌≡◌, refl, ◌∙◌, true, false, cond, List, [], ◌∷◌, length, take, drop, eqb, arith}
use Rattle.std.specs.Prelude.{None, Some}
use Rattle.std.specs.Cmp.Lexicographic.{pointwise}
use Rattle.model.specs.Rules.Line.{after_prefix}

-- what follows the word, if its bytes are the first ones
prefix-is : (word bytes : List ℕ)
    → after_prefix word bytes ≡ cond (pointwise eqb (take (length word) bytes) word) (Some (drop (length word) bytes)) None
unfolding after_prefix
prefix-is [] bytes = refl
prefix-is (p ∷ word) [] = refl
prefix-is (p ∷ word) (b ∷ bytes) = grind (arith, prefix-is word bytes)

module _ (word bytes : List ℕ) where
  pub found : pointwise eqb (take (length word) bytes) word ≡ true → after_prefix word bytes ≡ Some (drop (length word) bytes)
  found e = prefix-is word bytes ∙ rw e

  pub missing : pointwise eqb (take (length word) bytes) word ≡ false → after_prefix word bytes ≡ None
  missing e = prefix-is word bytes ∙ rw e
