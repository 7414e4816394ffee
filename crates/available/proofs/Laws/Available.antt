-- The available blocks of a word: which bits they are.
use Prim.Native.Nat.{ℕ, ◌+◌, ◌-◌, ◌*◌, ◌%◌, ◌^◌, ◌≤◌, ◌<◌, min}
use native.Mathlib.Nat.{lt_of_le_of_lt, mod-eq_of_lt}
use native.Mathlib.Omega.{arith}
use mathlib.Core.Path.{◌≡◌, refl, sym, ap, ap₂, ◌∙◌}
use mathlib.Core.Logic.{⊎_elim}
use mathlib.Core.Bool.{Bool, true, false, not, ◌&&◌, ◌||◌, and-true, and-false}
use mathlib.Core.List.{List}
use lib.ListN.{get_or}
use lib.Dec.{ltb}
use lib.Bits.{bit_and, bit_or, and_le_l, and_mask, or_lt}
use lib.Pow.{ones_sub-lt}
use borrow.Author.Tests.{lt-ltb, le-ltb}
use Rattle.bitmap.specs.Sizes.{word_bits}
use Rattle.bitmap.specs.Bits.{is_set, IsBitmap}
use Rattle.bitmap.specs.Blocks.{from, is_available}
use Rattle.bitmap.proofs.Laws.Word.{is_set-and, is_set-or, is_set-not, is_set-ones}
use Rattle.bitmap.proofs.Laws.Bits.{below-or-from, bit_word}
use Rattle.bitmap.proofs.Laws.Blocks.{from-same}
use Rattle.available.specs.Available.{available_word, available_from}
use Rattle.bitops.proofs.Laws.Block.{shift_one}

-- ---- words

-- neither of two
not-or : (a b : Bool) → not (a || b) ≡ (not a && not b)
not-or true b = refl
not-or false b = refl

-- the bits that neither word has
is_set-neither : (s c i : ℕ) → s < 2 ^ word_bits → c < 2 ^ word_bits → i < word_bits
    → is_set (2 ^ 32 - 1 - bit_or s c) i ≡ (not (is_set s i) && not (is_set c i))
is_set-neither s c i hs hc l =
    is_set-not 32 (bit_or s c) i (or_lt 32 s c hs hc) l ∙ ap not (is_set-or s c i) ∙ not-or (is_set s i) (is_set c i)

-- ---- the word that the code makes

module _ (m : ℕ) (sam «com» : List ℕ) (k : ℕ) where
  -- of the last word, those below m
  pub available_part : (left : ℕ) → left ≡ m - 32 * k → left < 32
      → bit_and (2 ^ 32 - 1 - bit_or (get_or sam k 0) (get_or «com» k 0)) (1 * 2 ^ left % 2 ^ 32 - 1) ≡ available_word m sam «com» k
  unfolding available_word
  available_part left e h =
      let n : min 32 (m - 32 * k) ≡ left = omega arith in
      rw (n, shift_one left h)

  -- of the words before, all
  pub available_whole : (left : ℕ) → left ≡ m - 32 * k → 32 ≤ left
      → 2 ^ 32 - 1 - bit_or (get_or sam k 0) (get_or «com» k 0) ≡ available_word m sam «com» k
  unfolding available_word
  available_whole left e h =
      let n : min 32 (m - 32 * k) ≡ 32 = omega arith in
      rw n
      (sym
      (and_mask (2 ^ 32 - 1 - bit_or (get_or sam k 0) (get_or «com» k 0)) 32
      ∙ mod-eq_of_lt (ones_sub-lt 32 (bit_or (get_or sam k 0) (get_or «com» k 0)))))

  pub available_word-lt : available_word m sam «com» k < 2 ^ word_bits
  unfolding available_word
  available_word-lt =
      lt_of_le_of_lt (and_le_l (2 ^ 32 - 1 - bit_or (get_or sam k 0) (get_or «com» k 0)) (2 ^ min 32 (m - 32 * k) - 1))
      (ones_sub-lt 32 (bit_or (get_or sam k 0) (get_or «com» k 0)))

-- ---- its bits are the available blocks

-- whether a block of a volume of m is available
unfoldable pub is_available_in : ℕ → List ℕ → List ℕ → ℕ → Bool
is_available_in m sam «com» b = is_available sam «com» b && ltb b m

-- none is from m on
pub available_in-past : (m : ℕ) (sam «com» : List ℕ) (b : ℕ) → m ≤ b → is_available_in m sam «com» b ≡ false
unfolding is_available_in
available_in-past m sam «com» b h = rw (le-ltb b m h) (and-false (is_available sam «com» b))

-- below m it is as it is available
pub available_in-below : (m : ℕ) (sam «com» : List ℕ) (b : ℕ) → b < m → is_available sam «com» b ≡ is_available_in m sam «com» b
unfolding is_available_in
available_in-below m sam «com» b h = rw (lt-ltb b m h) (sym (and-true (is_available sam «com» b)))

-- so the available blocks are these
pub available_from-in : (m : ℕ) (sam «com» : List ℕ) (p : ℕ) → available_from m sam «com» p ≡ from (is_available_in m sam «com») m p
available_from-in m sam «com» p = from-same (is_available sam «com») (is_available_in m sam «com») m p (λ b l h. available_in-below m sam «com» b h)

-- a place in a word is below the volume's end in the word just if the block is below the volume's end
ltb-place : (m k i : ℕ) → i < 32 → ltb i (min 32 (m - 32 * k)) ≡ ltb (32 * k + i) m
ltb-place m k i h =
    ⊎_elim (λ l. lt-ltb i (min 32 (m - 32 * k)) (omega arith) ∙ sym (lt-ltb (32 * k + i) m l))
    (λ l. le-ltb i (min 32 (m - 32 * k)) (omega arith) ∙ sym (le-ltb (32 * k + i) m l)) (below-or-from (32 * k + i) m)

pub available-bits : (m : ℕ) (sam «com» : List ℕ) (k i : ℕ) → IsBitmap sam → IsBitmap «com» → i < 32
    → is_set (available_word m sam «com» k) i ≡ is_available_in m sam «com» (32 * k + i)
unfolding available_word is_available_in is_available
available-bits m sam «com» k i hs hc h =
    is_set-and (2 ^ 32 - 1 - bit_or (get_or sam k 0) (get_or «com» k 0)) (2 ^ min 32 (m - 32 * k) - 1) i
    ∙ ap₂ ◌&&◌
    (is_set-neither (get_or sam k 0) (get_or «com» k 0) i (hs.small k) (hc.small k) h
    ∙ sym (ap₂ (λ (x y : Bool). not x && not y) (bit_word sam k i h) (bit_word «com» k i h)))
    (is_set-ones (min 32 (m - 32 * k)) i ∙ ltb-place m k i h)
