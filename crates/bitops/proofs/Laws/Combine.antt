-- Three bitmaps combined word by word: the words and bits of the result, and the bitmaps that a
-- commit, a rollback and another slot's commit make.
use Prim.Native.Nat.{ℕ, zero, suc, ◌-◌, ◌/◌, ◌%◌, ◌^◌, ◌≤◌, ◌<◌}
use native.Mathlib.Nat.{not-suc-le-zero}
use native.Mathlib.Omega.{arith}
use mathlib.Core.Path.{◌≡◌, refl, sym, ap, ap₂, ◌∙◌}
use mathlib.Core.Logic.{⊎_elim}
use mathlib.Core.Bool.{Bool, true, false, not, xor, cond, ◌&&◌, ◌||◌}
use mathlib.Core.List.{List, [], ◌∷◌}
use lib.ListN.{length, get_or, get_or-eq_default}
use lib.Bits.{bit_and, bit_xor, and_lt, or_lt, xor_lt}
use lib.Pow.{ones_sub-lt}
use Rattle.std.proofs.lemmas.Grind.{same_number_lists}
use Rattle.bitmap.specs.Sizes.{max_blocks, word_bits, bitmap_words}
use Rattle.bitmap.specs.Bits.{is_set, bit, bitmap_of, no_bits_from, IsBitmap}
use Rattle.bitmap.specs.Majority.{majority}
use Rattle.bitmap.proofs.Laws.Word.{is_set-and, is_set-or, is_set-xor, is_set-not}
use Rattle.bitmap.proofs.Laws.Bits.{no_bits-bit, below-or-from}
use Rattle.bitmap.proofs.Laws.Majority.{majority_word-lt, is_set-rollback}
use Rattle.bitops.specs.Combine.{rollback_word, refresh_word, zip3}
use Rattle.bitops.proofs.Laws.Bitmap.{bitmap-of-bits}

-- ---- the words

-- as many words as the three have
length-zip3 : (f : ℕ → ℕ → ℕ → ℕ) (xs ys zs : List ℕ) → length ys ≡ length xs → length zs ≡ length xs → length (zip3 f xs ys zs) ≡ length xs
unfolding zip3
length-zip3 f [] ys zs ey ez = refl
length-zip3 f (x ∷ xs) [] zs ey ez = ey
length-zip3 f (x ∷ xs) (y ∷ ys) [] ey ez = ez
length-zip3 f (x ∷ xs) (y ∷ ys) (z ∷ zs) ey ez = ap suc (length-zip3 f xs ys zs (omega arith) (omega arith))

-- each made of those in its place
get_or-zip3 : (f : ℕ → ℕ → ℕ → ℕ) (xs ys zs : List ℕ) (k : ℕ) → length ys ≡ length xs → length zs ≡ length xs → k < length xs
    → get_or (zip3 f xs ys zs) k 0 ≡ f (get_or xs k 0) (get_or ys k 0) (get_or zs k 0)
unfolding zip3
get_or-zip3 f [] ys zs k ey ez h = absurd (not-suc-le-zero h)
get_or-zip3 f (x ∷ xs) [] zs k ey ez h = absurd (omega arith)
get_or-zip3 f (x ∷ xs) (y ∷ ys) [] k ey ez h = absurd (omega arith)
get_or-zip3 f (x ∷ xs) (y ∷ ys) (z ∷ zs) zero ey ez h = refl
get_or-zip3 f (x ∷ xs) (y ∷ ys) (z ∷ zs) (suc k) ey ez h = get_or-zip3 f xs ys zs k (omega arith) (omega arith) (omega arith)

module _ (f : ℕ → ℕ → ℕ → ℕ) (u v w : List ℕ)
    (eu : length u ≡ bitmap_words) (ev : length v ≡ bitmap_words) (ew : length w ≡ bitmap_words) where
  -- of as many words as a bitmap has, as many
  zip3-size : length (zip3 f u v w) ≡ bitmap_words
  zip3-size = length-zip3 f u v w (ev ∙ sym eu) (ew ∙ sym eu) ∙ eu

  word_at : (k : ℕ) → k < bitmap_words → get_or (zip3 f u v w) k 0 ≡ f (get_or u k 0) (get_or v k 0) (get_or w k 0)
  word_at k h = get_or-zip3 f u v w k (ev ∙ sym eu) (ew ∙ sym eu) (omega arith)

  -- words that are each made of those in its place
  pub zip3_each : (words : List ℕ) → length words ≡ bitmap_words
      → ((k : ℕ) → k < bitmap_words → get_or words k 0 ≡ f (get_or u k 0) (get_or v k 0) (get_or w k 0))
      → words ≡ zip3 f u v w
  zip3_each words size each =
      same_number_lists words (zip3 f u v w) (size ∙ sym zip3-size)
      (λ k h. each k (omega arith) ∙ sym (word_at k (omega arith)))

-- ---- the bits

-- what a combination of words of 32 bits is bit by bit
pub record Bitwise (f : ℕ → ℕ → ℕ → ℕ) (g : Bool → Bool → Bool → Bool) : Type 0 where
  pub small : (x y z : ℕ) → x < 2 ^ word_bits → y < 2 ^ word_bits → z < 2 ^ word_bits → f x y z < 2 ^ word_bits
  pub bits : (x y z i : ℕ) → x < 2 ^ word_bits → y < 2 ^ word_bits → z < 2 ^ word_bits → i < word_bits
      → is_set (f x y z) i ≡ g (is_set x i) (is_set y i) (is_set z i)
  pub none : g false false false ≡ false

module _ (f : ℕ → ℕ → ℕ → ℕ) (g : Bool → Bool → Bool → Bool) (by : Bitwise f g)
    (u v w : List ℕ) (hu : IsBitmap u) (hv : IsBitmap v) (hw : IsBitmap w) where
  size_of : length (zip3 f u v w) ≡ bitmap_words
  size_of = zip3-size f u v w hu.size hv.size hw.size

  word_of : (k : ℕ) → k < bitmap_words → get_or (zip3 f u v w) k 0 ≡ f (get_or u k 0) (get_or v k 0) (get_or w k 0)
  word_of = word_at f u v w hu.size hv.size hw.size

  -- bitmaps combined are a bitmap
  pub zip3-is : IsBitmap (zip3 f u v w)
  zip3-is =
      record {
        size = size_of;
        small = λ k. ⊎_elim (within k) (past k) (below-or-from k bitmap_words);
      }
    where
      within : (k : ℕ) → k < bitmap_words → get_or (zip3 f u v w) k 0 < 2 ^ word_bits
      within k h = rw (word_of k h) (by.small (get_or u k 0) (get_or v k 0) (get_or w k 0) (hu.small k) (hv.small k) (hw.small k))

      past : (k : ℕ) → bitmap_words ≤ k → get_or (zip3 f u v w) k 0 < 2 ^ word_bits
      past k h =
          let l : length (zip3 f u v w) ≤ k = omega (arith, size_of) in
          rw (get_or-eq_default (zip3 f u v w) 0 l) (omega arith)

  -- with the bits combined
  pub bit-zip3 : (b : ℕ) → b < max_blocks → bit (zip3 f u v w) b ≡ g (bit u b) (bit v b) (bit w b)
  unfolding bit
  bit-zip3 b h =
      let k = b / 32 in
      ap (λ (x : ℕ). is_set x (b % 32)) (word_of k (omega arith))
      ∙ by.bits (get_or u k 0) (get_or v k 0) (get_or w k 0) (b % 32) (hu.small k) (hv.small k) (hw.small k) (omega arith)

  -- and none from m on where the three have none
  pub zip3-bitmap : (m : ℕ) → m ≤ max_blocks → no_bits_from m u ≡ true → no_bits_from m v ≡ true → no_bits_from m w ≡ true
      → zip3 f u v w ≡ bitmap_of m (λ b. g (bit u b) (bit v b) (bit w b))
  zip3-bitmap m h nu nv nw =
      bitmap-of-bits m (zip3 f u v w) (λ b. g (bit u b) (bit v b) (bit w b)) h zip3-is
      (λ b l. bit-zip3 b (omega arith))
      (λ b l s. bit-zip3 b s ∙ rw (no_bits-bit m u b nu l, no_bits-bit m v b nv l, no_bits-bit m w b nw l) by.none)

-- ---- the three combinations

pub rollback-bitwise : Bitwise rollback_word (λ c s t. majority c s (not t))
unfolding rollback_word majority
rollback-bitwise =
    record {
      small = λ c s t hc hs ht. majority_word-lt 32 c s (2 ^ 32 - 1 - t) hc hs (ones_sub-lt 32 t);
      bits = λ c s t i hc hs ht l. is_set-rollback 32 c s t i ht l;
      none = refl;
    }

-- the bit that a refresh leaves
refresh-table : (o n t : Bool) → ((n && xor o n) || (t && not (xor o n))) ≡ cond (xor o n) n t
unfolding xor
refresh-table false false false = refl
refresh-table false false true = refl
refresh-table false true false = refl
refresh-table false true true = refl
refresh-table true false false = refl
refresh-table true false true = refl
refresh-table true true false = refl
refresh-table true true true = refl

refresh-bits : (o n t i : ℕ) → o < 2 ^ word_bits → n < 2 ^ word_bits → i < 32
    → is_set (refresh_word o n t) i ≡ cond (xor (is_set o i) (is_set n i)) (is_set n i) (is_set t i)
unfolding refresh_word
refresh-bits o n t i ho hn l =
    is_set-or (bit_and n (bit_xor o n)) (bit_and t (2 ^ 32 - 1 - bit_xor o n)) i
    ∙ ap₂ ◌||◌ (is_set-and n (bit_xor o n) i ∙ ap (λ (x : Bool). is_set n i && x) (is_set-xor o n i))
    (is_set-and t (2 ^ 32 - 1 - bit_xor o n) i
    ∙ ap (λ (x : Bool). is_set t i && x) (is_set-not 32 (bit_xor o n) i (xor_lt 32 o n ho hn) l ∙ ap not (is_set-xor o n i)))
    ∙ refresh-table (is_set o i) (is_set n i) (is_set t i)

pub refresh-bitwise : Bitwise refresh_word (λ o n t. cond (xor o n) n t)
unfolding refresh_word xor
refresh-bitwise =
    record {
      small = λ o n t ho hn ht.
          or_lt 32 (bit_and n (bit_xor o n)) (bit_and t (2 ^ 32 - 1 - bit_xor o n)) (and_lt 32 n (bit_xor o n) hn (xor_lt 32 o n ho hn))
          (and_lt 32 t (2 ^ 32 - 1 - bit_xor o n) ht (ones_sub-lt 32 (bit_xor o n)));
      bits = λ o n t i ho hn ht l. refresh-bits o n t i ho hn l;
      none = refl;
    }

-- ---- the bitmaps of a volume of m blocks

module _ (m : ℕ) (h : m ≤ max_blocks) where
  -- the COM of a rollback
  pub rollback-bitmap : («com» sam tam : List ℕ) → IsBitmap «com» → IsBitmap sam → IsBitmap tam
      → no_bits_from m «com» ≡ true → no_bits_from m sam ≡ true → no_bits_from m tam ≡ true
      → zip3 rollback_word «com» sam tam ≡ bitmap_of m (λ b. majority (bit «com» b) (bit sam b) (not (bit tam b)))
  rollback-bitmap «com» sam tam hc hs ht =
      zip3-bitmap rollback_word (λ c s t. majority c s (not t)) rollback-bitwise «com» sam tam hc hs ht m h

  -- the TAM of another slot after a commit
  pub refresh-bitmap : (old new tam : List ℕ) → IsBitmap old → IsBitmap new → IsBitmap tam
      → no_bits_from m old ≡ true → no_bits_from m new ≡ true → no_bits_from m tam ≡ true
      → zip3 refresh_word old new tam ≡ bitmap_of m (λ b. cond (xor (bit old b) (bit new b)) (bit new b) (bit tam b))
  refresh-bitmap old new tam ho hn ht =
      zip3-bitmap refresh_word (λ o n t. cond (xor o n) n t) refresh-bitwise old new tam ho hn ht m h
