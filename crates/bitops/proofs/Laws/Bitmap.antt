-- A bitmap is the bitmap of m blocks whose bits it has.
use Prim.Native.Nat.{ℕ, ◌≤◌, ◌<◌}
use mathlib.Core.Path.{◌≡◌, sym, ◌∙◌}
use mathlib.Core.Logic.{⊎_elim}
use mathlib.Core.Bool.{Bool, false}
use mathlib.Core.List.{List}
use Rattle.bitmap.specs.Sizes.{max_blocks}
use Rattle.bitmap.specs.Bits.{bit, bitmap_of, IsBitmap}
use Rattle.bitmap.proofs.Laws.Bits.{bitmap-ext, bitmap_of-is, bit_below, bit-from, below-or-from}

-- words with the bits of f below m, and none from m on, are the bitmap of f
pub bitmap-of-bits : (m : ℕ) (words : List ℕ) (f : ℕ → Bool) → m ≤ max_blocks → IsBitmap words
    → ((b : ℕ) → b < m → bit words b ≡ f b)
    → ((b : ℕ) → m ≤ b → b < max_blocks → bit words b ≡ false)
    → words ≡ bitmap_of m f
bitmap-of-bits m words f h is low high =
    bitmap-ext words (bitmap_of m f) is (bitmap_of-is m f)
    (λ b l.
    ⊎_elim (λ k. low b k ∙ sym (bit_below m f b h k)) (λ k. high b k l ∙ sym (bit-from m f b k)) (below-or-from b m))
