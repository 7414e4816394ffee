-- What is left: the blocks at which COM differs from SAM, less those that the slots passed have touched.
use Rattle.std.specs.Prelude.{ℕ, ◌-◌, ◌^◌, ◌≡◌, Bool, List, [], ◌∷◌, get_or, eqb}
use Rattle.std.specs.Int.Bits.{bit_and, bit_xor}
use Rattle.bitmap.specs.Sizes.{word_bits, bitmap_words}
use Rattle.bitmap.specs.Blocks.{all_below}

-- the blocks at which two bitmaps differ
unfoldable pub differ : List ℕ → List ℕ → List ℕ
differ [] vs = []
differ (u ∷ us) [] = []
differ (u ∷ us) (v ∷ vs) = bit_xor u v ∷ differ us vs

-- whether what is touched in word k is left there
abbrev pub word_left : List ℕ → List ℕ → ℕ → Bool
word_left left touched k = eqb (bit_and (get_or touched k 0) (2 ^ word_bits - 1 - get_or left k 0)) 0

-- and so in every word
unfoldable pub all_left : List ℕ → List ℕ → Bool
all_left left touched = all_below bitmap_words (word_left left touched)

-- touched blocks taken from what is left
pub record TouchedTaken (left touched : List ℕ) (r : Bool) (left' : List ℕ) : Type 0 where
  pub answer : r ≡ all_left left touched
  pub rest : left' ≡ differ left touched
