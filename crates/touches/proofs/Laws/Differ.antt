-- The blocks at which two bitmaps differ: a bitmap, by its words.
use Prim.Native.Nat.{ℕ, zero, suc, ◌<◌}
use native.Mathlib.Omega.{arith}
use mathlib.Core.Path.{◌≡◌, refl, sym, ap, ◌∙◌}
use mathlib.Core.List.{List, [], ◌∷◌}
use lib.ListN.{length, get_or}
use lib.Bits.{bit_xor, xor_lt}
use Rattle.std.proofs.lemmas.Grind.{same_number_lists}
use Rattle.bitmap.specs.Sizes.{word_bits, bitmap_words}
use Rattle.bitmap.specs.Bits.{IsBitmap}
use Rattle.touches.specs.Left.{differ}

pub length-differ : (us vs : List ℕ) → length vs ≡ length us → length (differ us vs) ≡ length us
unfolding differ
length-differ [] vs e = refl
length-differ (u ∷ us) [] e = e
length-differ (u ∷ us) (v ∷ vs) e = ap suc (length-differ us vs (omega arith))

pub get_or-differ : (us vs : List ℕ) (k : ℕ) → length vs ≡ length us → get_or (differ us vs) k 0 ≡ bit_xor (get_or us k 0) (get_or vs k 0)
unfolding differ
get_or-differ [] [] k e = refl
get_or-differ [] (v ∷ vs) k e = absurd (omega arith)
get_or-differ (u ∷ us) [] k e = absurd (omega arith)
get_or-differ (u ∷ us) (v ∷ vs) zero e = refl
get_or-differ (u ∷ us) (v ∷ vs) (suc k) e = get_or-differ us vs k (omega arith)

module _ (u v : List ℕ) (hu : IsBitmap u) (hv : IsBitmap v) where
  pub differ-size : length (differ u v) ≡ bitmap_words
  differ-size = length-differ u v (hv.size ∙ sym hu.size) ∙ hu.size

  pub differ-at : (k : ℕ) → get_or (differ u v) k 0 ≡ bit_xor (get_or u k 0) (get_or v k 0)
  differ-at k = get_or-differ u v k (hv.size ∙ sym hu.size)

  pub differ-is : IsBitmap (differ u v)
  differ-is =
      record { size = differ-size; small = λ k. rw (differ-at k) (xor_lt word_bits (get_or u k 0) (get_or v k 0) (hu.small k) (hv.small k)) }

-- words that are each the difference of those in their place
pub differ_each : (u v words : List ℕ) → length u ≡ bitmap_words → length v ≡ bitmap_words → length words ≡ bitmap_words
    → ((k : ℕ) → k < bitmap_words → get_or words k 0 ≡ bit_xor (get_or u k 0) (get_or v k 0))
    → words ≡ differ u v
differ_each u v words hu hv size each =
    same_number_lists words (differ u v) (omega (arith, length-differ u v (hv ∙ sym hu)))
    (λ k h. each k (omega arith) ∙ sym (get_or-differ u v k (hv ∙ sym hu)))
