-- A bitmap's bits: which bits a bitmap has, and that a bitmap is known by them.
use Prim.Native.Nat.{ℕ, zero, suc, ◌+◌, ◌-◌, ◌*◌, ◌/◌, ◌%◌, ◌^◌, ◌≤◌, ◌<◌, min}
use native.Mathlib.Nat.{sub-zero, zero-add, add-zero, not-suc-le-zero, min-le_left, min-le_right}
use native.Mathlib.Omega.{arith}
use mathlib.Core.Path.{◌≡◌, refl, sym, ap, ◌∙◌}
use mathlib.Core.Logic.{◌⊎◌, inl, inr, ⊎_elim}
use mathlib.Core.Bool.{Bool, true, false, and-eq-true_iff}
use mathlib.Core.List.{List, [], ◌∷◌}
use lib.ListN.{length, get_or, replicate, get_or-eq_default}
use lib.Seq.{ext_get_or}
use lib.Dec.{ltb}
use lib.Pow.{pow_pos, pow_mono}
use borrow.Author.Tests.{ltb-true, ltb-false, lt-ltb}
use Rattle.bitmap.specs.Sizes.{max_blocks, word_bits, bitmap_words}
use Rattle.bitmap.specs.Bits.{is_set, bit, word_of, words_of, bitmap_of, no_bits_from, IsBitmap}
use Rattle.bitmap.proofs.Laws.Word.{is_set-zero, is_set-small, small-is_set, word-ext, word_of-lt, is_set-word_of}

-- a block is below m or not
pub below-or-from : (b m : ℕ) → (b < m) ⊎ (m ≤ b)
below-or-from b m = go (ltb b m) refl
  where
    go : (t : Bool) → ltb b m ≡ t → (b < m) ⊎ (m ≤ b)
    go true e = inl (ltb-true b m e)
    go false e = inr (ltb-false b m e)

-- ---- bits and words

-- bit i of word k is the bit of block 32 k + i
pub bit_word : (words : List ℕ) (k i : ℕ) → i < 32 → bit words (32 * k + i) ≡ is_set (get_or words k 0) i
unfolding bit
bit_word words k i h =
    let d : (32 * k + i) / 32 ≡ k = omega arith in
    let r : (32 * k + i) % 32 ≡ i = omega arith in
    rw (d, r)

-- two words are one if their bits are
pub word-of-bits : (u v : List ℕ) (k : ℕ) → get_or u k 0 < 2 ^ word_bits → get_or v k 0 < 2 ^ word_bits
    → ((i : ℕ) → i < 32 → bit u (32 * k + i) ≡ bit v (32 * k + i)) → get_or u k 0 ≡ get_or v k 0
word-of-bits u v k hu hv same =
    word-ext 32 (get_or u k 0) (get_or v k 0) hu hv (λ i l. sym (bit_word u k i l) ∙ same i l ∙ bit_word v k i l)

-- two bitmaps are one if their bits are
pub bitmap-ext : (u v : List ℕ) → IsBitmap u → IsBitmap v → ((b : ℕ) → b < max_blocks → bit u b ≡ bit v b) → u ≡ v
bitmap-ext u v hu hv same =
    ext_get_or 0 u v (hu.size ∙ sym hv.size)
    (λ k h.
    let l : k < bitmap_words = omega (arith, hu.size) in
    word-of-bits u v k (hu.small k) (hv.small k) (λ i hi. same (32 * k + i) (omega arith)))

-- a bitmap has no bits past its words
pub bit-beyond : (words : List ℕ) (b : ℕ) → length words ≡ bitmap_words → max_blocks ≤ b → bit words b ≡ false
unfolding bit
bit-beyond words b e h =
    let l : length words ≤ b / 32 = omega arith in
    rw (get_or-eq_default words 0 l, is_set-zero)

-- each word of the empty bitmap is 0
pub get_or-zeros : (n k : ℕ) → get_or {A = ℕ} (replicate n 0) k 0 ≡ 0
get_or-zeros zero k = refl
get_or-zeros (suc n) zero = refl
get_or-zeros (suc n) (suc k) = get_or-zeros n k

-- the empty bitmap has no bits
pub bit-empty : (b : ℕ) → bit (replicate bitmap_words 0) b ≡ false
unfolding bit
bit-empty b = rw (get_or-zeros bitmap_words (b / 32), is_set-zero)

-- ---- no bits from m on

-- word k of a bitmap with no bits from m on has none from m - 32 k on
pub no_bits-at : (m : ℕ) (words : List ℕ) (k : ℕ) → no_bits_from m words ≡ true → get_or words k 0 < 2 ^ (m - 32 * k)
unfolding no_bits_from
no_bits-at m [] k h = pow_pos (m - 32 * k)
no_bits-at m (w ∷ ws) zero h = rw sub-zero (ltb-true w (2 ^ m) ((and-eq-true_iff (ltb w (2 ^ m)) (no_bits_from (m - 32) ws)).0 h).0)
no_bits-at m (w ∷ ws) (suc k) h =
    let e : m - 32 * suc k ≡ m - 32 - 32 * k = omega arith in
    rw e (no_bits-at (m - 32) ws k ((and-eq-true_iff (ltb w (2 ^ m)) (no_bits_from (m - 32) ws)).0 h).1)

-- and a bitmap of such words has no bits from m on
pub no_bits-all : (m : ℕ) (words : List ℕ) → ((k : ℕ) → k < length words → get_or words k 0 < 2 ^ (m - 32 * k)) → no_bits_from m words ≡ true
unfolding no_bits_from
no_bits-all m [] h = refl
no_bits-all m (w ∷ ws) h =
    (and-eq-true_iff (ltb w (2 ^ m)) (no_bits_from (m - 32) ws)).1 (
      lt-ltb w (2 ^ m) (rw sub-zero at (h 0 (omega arith))),
      no_bits-all (m - 32) ws
          (λ k l.
          let e : m - 32 - 32 * k ≡ m - 32 * suc k = omega arith in
          rw e (h (suc k) (omega arith))),
    )

-- with no bits from m on, the bits from m on are 0
pub no_bits-bit : (m : ℕ) (words : List ℕ) (b : ℕ) → no_bits_from m words ≡ true → m ≤ b → bit words b ≡ false
unfolding bit
no_bits-bit m words b h l =
    is_set-small (get_or words (b / 32) 0) (m - 32 * (b / 32)) (b % 32) (no_bits-at m words (b / 32) h) (omega arith)

-- and if those bits are 0, there are no bits from m on
pub bits-no_bits : (m : ℕ) (words : List ℕ) → IsBitmap words → ((b : ℕ) → m ≤ b → b < max_blocks → bit words b ≡ false) → no_bits_from m words ≡ true
bits-no_bits m words is none =
    no_bits-all m words
    (λ k h.
    let l : k < bitmap_words = omega (arith, is.size) in
    small-is_set (get_or words k 0) 32 (m - 32 * k) (is.small k)
    (λ i from below. sym (bit_word words k i below) ∙ none (32 * k + i) (omega arith) (omega arith)))

-- ---- the bitmap of given bits

-- word j of the words from p on has the bits of f from p + 32 j on
pub get_or-words_of : (f : ℕ → Bool) (m p k j : ℕ) → j < k
    → get_or (words_of f m p k) j 0 ≡ word_of f (p + 32 * j) (min 32 (m - (p + 32 * j)))
unfolding words_of
get_or-words_of f m p zero j h = absurd (not-suc-le-zero h)
get_or-words_of f m p (suc k) zero h = rw add-zero
get_or-words_of f m p (suc k) (suc j) h =
    let e : p + 32 + 32 * j ≡ p + 32 * suc j = omega arith in
    get_or-words_of f m (p + 32) k j (omega arith) ∙ rw e

-- k words are k
pub length-words_of : (f : ℕ → Bool) (m p k : ℕ) → length (words_of f m p k) ≡ k
unfolding words_of
length-words_of f m p zero = refl
length-words_of f m p (suc k) = ap suc (length-words_of f m (p + 32) k)

-- word k of a bitmap has the bits of f from 32 k on
get_or-bitmap_of : (m : ℕ) (f : ℕ → Bool) (k : ℕ) → k < bitmap_words
    → get_or (bitmap_of m f) k 0 ≡ word_of f (32 * k) (min 32 (m - 32 * k))
unfolding bitmap_of
get_or-bitmap_of m f k h = get_or-words_of f m 0 bitmap_words k h ∙ rw (zero-add (32 * k))

-- it has neither bits from m - 32 k on nor from 32 on
bitmap_of-lt : (m : ℕ) (f : ℕ → Bool) (k : ℕ) → get_or (bitmap_of m f) k 0 < 2 ^ min 32 (m - 32 * k)
unfolding bitmap_of
bitmap_of-lt m f k = ⊎_elim within past (below-or-from k bitmap_words)
  where
    within : k < bitmap_words → get_or (bitmap_of m f) k 0 < 2 ^ min 32 (m - 32 * k)
    within h = rw (get_or-bitmap_of m f k h) (word_of-lt f (32 * k) (min 32 (m - 32 * k)))

    past : bitmap_words ≤ k → get_or (bitmap_of m f) k 0 < 2 ^ min 32 (m - 32 * k)
    past h =
        let l : length (bitmap_of m f) ≤ k = omega (arith, length-words_of f m 0 bitmap_words) in
        rw (get_or-eq_default (bitmap_of m f) 0 l) (pow_pos (min 32 (m - 32 * k)))

-- it is a bitmap
pub bitmap_of-is : (m : ℕ) (f : ℕ → Bool) → IsBitmap (bitmap_of m f)
unfolding bitmap_of
bitmap_of-is m f =
    record {
      size = length-words_of f m 0 bitmap_words;
      small = λ k. omega (arith, bitmap_of-lt m f k, pow_mono (min-le_left 32 (m - 32 * k)));
    }

-- it has no bits from m on
pub no_bits-bitmap_of : (m : ℕ) (f : ℕ → Bool) → no_bits_from m (bitmap_of m f) ≡ true
no_bits-bitmap_of m f =
    no_bits-all m (bitmap_of m f) (λ k h. omega (arith, bitmap_of-lt m f k, pow_mono (min-le_right 32 (m - 32 * k))))

-- its bits below m are f's, as far as a bitmap goes
bit-within : (m : ℕ) (f : ℕ → Bool) (b : ℕ) → b < max_blocks → b < m → bit (bitmap_of m f) b ≡ f b
unfolding bit
bit-within m f b h l =
    ap (λ (w : ℕ). is_set w (b % 32)) (get_or-bitmap_of m f (b / 32) (omega arith))
    ∙ is_set-word_of f (32 * (b / 32)) (min 32 (m - 32 * (b / 32))) (b % 32) (omega arith)
    ∙ ap f (omega arith)

pub bit_below : (m : ℕ) (f : ℕ → Bool) (b : ℕ) → m ≤ max_blocks → b < m → bit (bitmap_of m f) b ≡ f b
bit_below m f b h l = bit-within m f b (omega arith) l

-- its bits from m on are 0
pub bit-from : (m : ℕ) (f : ℕ → Bool) (b : ℕ) → m ≤ b → bit (bitmap_of m f) b ≡ false
bit-from m f b h = no_bits-bit m (bitmap_of m f) b (no_bits-bitmap_of m f) h

-- and all are f's where f has none from m on
pub bitmap_of-bits : (m : ℕ) (f : ℕ → Bool) → m ≤ max_blocks → ((b : ℕ) → m ≤ b → f b ≡ false) → (b : ℕ) → bit (bitmap_of m f) b ≡ f b
bitmap_of-bits m f few none b = ⊎_elim (bit_below m f b few) (λ h. bit-from m f b h ∙ sym (none b h)) (below-or-from b m)

-- the bitmap of a bitmap's bits is that bitmap
pub bitmap_of-bit : (m : ℕ) (words : List ℕ) → m ≤ max_blocks → IsBitmap words → no_bits_from m words ≡ true → bitmap_of m (bit words) ≡ words
bitmap_of-bit m words h is none =
    bitmap-ext (bitmap_of m (bit words)) words (bitmap_of-is m (bit words)) is
    (λ b l.
    ⊎_elim (bit-within m (bit words) b l) (λ k. bit-from m (bit words) b k ∙ sym (no_bits-bit m words b none k))
    (below-or-from b m))

-- only the bits below m count
pub bitmap_of-same : (m : ℕ) (f g : ℕ → Bool) → ((b : ℕ) → b < m → f b ≡ g b) → bitmap_of m f ≡ bitmap_of m g
bitmap_of-same m f g same =
    bitmap-ext (bitmap_of m f) (bitmap_of m g) (bitmap_of-is m f) (bitmap_of-is m g)
    (λ b l.
    ⊎_elim (λ k. bit-within m f b l k ∙ same b k ∙ sym (bit-within m g b l k)) (λ k. bit-from m f b k ∙ sym (bit-from m g b k))
    (below-or-from b m))
