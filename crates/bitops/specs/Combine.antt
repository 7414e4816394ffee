-- Three bitmaps combined word by word.
use Rattle.std.specs.Prelude.{ℕ, ◌-◌, ◌^◌, ◌<◌, List, [], ◌∷◌, get_or}
use Rattle.std.specs.Int.Bits.{bit_and, bit_or, bit_xor}
use Rattle.bitmap.specs.Sizes.{bitmap_words}
use Rattle.bitmap.proofs.Laws.Majority.{majority_word}

-- the majority of COM, SAM and TAM turned, bit by bit
unfoldable pub rollback_word : ℕ → ℕ → ℕ → ℕ
rollback_word «com» sam tam = majority_word «com» sam (2 ^ 32 - 1 - tam)

-- the new word's bit where the old and the new one differ, and the third's elsewhere
unfoldable pub refresh_word : ℕ → ℕ → ℕ → ℕ
refresh_word old new other = bit_or (bit_and new (bit_xor old new)) (bit_and other (2 ^ 32 - 1 - bit_xor old new))

-- three lists word by word
unfoldable pub zip3 : (ℕ → ℕ → ℕ → ℕ) → List ℕ → List ℕ → List ℕ → List ℕ
zip3 f [] ys zs = []
zip3 f (x ∷ xs) [] zs = []
zip3 f (x ∷ xs) (y ∷ ys) [] = []
zip3 f (x ∷ xs) (y ∷ ys) (z ∷ zs) = f x y z ∷ zip3 f xs ys zs

-- each of a bitmap's words related to the three in its place
abbrev pub Combined : (ℕ → ℕ → ℕ → ℕ → Type 0) → List ℕ → List ℕ → List ℕ → List ℕ → Type 0
Combined relates xs ys zs words =
    (k : ℕ) → k < bitmap_words → relates (get_or xs k 0) (get_or ys k 0) (get_or zs k 0) (get_or words k 0)
