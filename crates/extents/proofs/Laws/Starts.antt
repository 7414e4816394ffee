-- The starts of extents as the bits of words: the available blocks, and longer extents from shorter ones.
use Prim.Native.Nat.{ℕ, ◌+◌, ◌-◌, ◌*◌, ◌/◌, ◌%◌, ◌^◌, ◌≤◌, ◌<◌}
use native.Mathlib.Omega.{arith}
use mathlib.Core.Path.{◌≡◌, refl, sym, ap, ap₂, ◌∙◌}
use mathlib.Core.Logic.{⊎_elim}
use mathlib.Core.Bool.{Bool, true, false, ◌&&◌, ◌||◌, or-false}
use mathlib.Core.List.{List}
use lib.ListN.{get_or}
use lib.Bits.{bit_and, bit_or}
use Rattle.bitmap.specs.Sizes.{word_bits, words_for}
use Rattle.bitmap.specs.Bits.{is_set, bit, IsBitmap}
use Rattle.bitmap.specs.Blocks.{is_available}
use Rattle.bitmap.specs.Extents.{is_start}
use Rattle.bitmap.proofs.Laws.Word.{is_set-zero, is_set-small, is_set-and, is_set-or, is_set-cut, is_set-down, is_set-up, is_set-below}
use Rattle.bitmap.proofs.Laws.Bits.{below-or-from, bit_word}
use Rattle.bitmap.proofs.Laws.Extents.{start-within, start-one, start-longer}
use Rattle.available.specs.Available.{available_word}
use Rattle.available.proofs.Laws.Available.{is_available_in, available_in-past, available-bits}
use Rattle.extents.specs.Starts.{AreZeros, AreStarts, NoneFrom, Narrowed}
use Rattle.extents.proofs.Laws.Words.{Renewed, renewed-before, renewed-from}

-- ---- extents of one block

-- a block starts one if it is available
one-available : (m : ℕ) (sam «com» : List ℕ) (b : ℕ) → is_available_in m sam «com» b ≡ is_start (is_available sam «com») m 1 b
unfolding is_available_in
one-available m sam «com» b = sym (start-one (is_available sam «com») m b)

module _ (m : ℕ) (sam «com» : List ℕ) {old words : List ℕ} (hs : IsBitmap sam) (hc : IsBitmap «com») (zeros : AreZeros old)
    (all : Renewed (words_for m) (available_word m sam «com») old words) where
  available-bit : (b : ℕ) → bit words b ≡ is_available_in m sam «com» b
  unfolding bit
  available-bit b = ⊎_elim within past (below-or-from (b / 32) (words_for m))
    where
      within : b / 32 < words_for m → is_set (get_or words (b / 32) 0) (b % 32) ≡ is_available_in m sam «com» b
      within h =
          ap (λ (w : ℕ). is_set w (b % 32)) (renewed-before all (b / 32) h)
          ∙ available-bits m sam «com» (b / 32) (b % 32) hs hc (omega arith)
          ∙ ap (is_available_in m sam «com») (omega arith)

      past : words_for m ≤ b / 32 → is_set (get_or words (b / 32) 0) (b % 32) ≡ is_available_in m sam «com» b
      past h =
          ap (λ (w : ℕ). is_set w (b % 32)) (renewed-from all (b / 32) h ∙ zeros (b / 32))
          ∙ is_set-zero (b % 32)
          ∙ sym (available_in-past m sam «com» b (omega arith))

  pub available-starts : AreStarts m sam «com» 1 words
  available-starts b = available-bit b ∙ one-available m sam «com» b

-- ---- longer extents

-- no extent starts from m on
pub starts-end : (m n : ℕ) (sam «com» words : List ℕ) → 1 ≤ n → AreStarts m sam «com» n words → NoneFrom m words
starts-end m n sam «com» words some so b h = so b ∙ go (is_start (is_available sam «com») m n b) refl
  where
    go : (t : Bool) → is_start (is_available sam «com») m n b ≡ t → is_start (is_available sam «com») m n b ≡ false
    go true e = absurd (omega (arith, start-within (is_available sam «com») m n b e))
    go false e = e

-- those that have another one so far above are the starts of extents longer by as much
pub longer : (m n k : ℕ) (sam «com» before after : List ℕ) → k ≤ n → AreStarts m sam «com» n before → Narrowed k before after
    → AreStarts m sam «com» (n + k) after
longer m n k sam «com» before after h so narrowed b =
    narrowed b ∙ ap₂ ◌&&◌ (so b) (so (b + k)) ∙ sym (start-longer (is_available sam «com») m n k b h)

-- a word and the next one
abbrev pub pair_of : List ℕ → ℕ → ℕ
pair_of words k = bit_or (get_or words k 0) (get_or words (k + 1) 0 * 2 ^ 32 % 2 ^ 64)

-- the bits of a word that have another one so far above them
abbrev pub narrowed_word : ℕ → List ℕ → ℕ → ℕ
narrowed_word shift words k = bit_and (get_or words k 0) (pair_of words k / 2 ^ shift)

module _ (before : List ℕ) (small : (k : ℕ) → get_or before k 0 < 2 ^ word_bits) (shift : ℕ) (few : shift ≤ 32) where
  -- the two words together have the blocks of both
  pair-bit : (k i : ℕ) → i < 64 → is_set (pair_of before k) i ≡ bit before (32 * k + i)
  pair-bit k i h =
      is_set-or (get_or before k 0) (get_or before (k + 1) 0 * 2 ^ 32 % 2 ^ 64) i
      ∙ ap (λ (t : Bool). is_set (get_or before k 0) i || t) (is_set-cut (get_or before (k + 1) 0 * 2 ^ 32) 64 i h)
      ∙ ⊎_elim low high (below-or-from i 32)
    where
      low : i < 32 → (is_set (get_or before k 0) i || is_set (get_or before (k + 1) 0 * 2 ^ 32) i) ≡ bit before (32 * k + i)
      low l =
          ap (λ (t : Bool). is_set (get_or before k 0) i || t) (is_set-below (get_or before (k + 1) 0) 32 i l)
          ∙ or-false (is_set (get_or before k 0) i)
          ∙ sym (bit_word before k i l)

      high : 32 ≤ i → (is_set (get_or before k 0) i || is_set (get_or before (k + 1) 0 * 2 ^ 32) i) ≡ bit before (32 * k + i)
      high l =
          let above : 32 + (i - 32) ≡ i = omega arith in
          let place : 32 * (k + 1) + (i - 32) ≡ 32 * k + i = omega arith in
          ap₂ ◌||◌ (is_set-small (get_or before k 0) 32 i (small k) l)
          (sym (ap (is_set (get_or before (k + 1) 0 * 2 ^ 32)) above) ∙ is_set-up (get_or before (k + 1) 0) 32 (i - 32))
          ∙ sym (bit_word before (k + 1) (i - 32) (omega arith))
          ∙ ap (bit before) place

  narrowed-bit : (k i : ℕ) → i < 32 → is_set (narrowed_word shift before k) i ≡ (bit before (32 * k + i) && bit before (32 * k + i + shift))
  narrowed-bit k i h =
      let place : 32 * k + (shift + i) ≡ 32 * k + i + shift = omega arith in
      is_set-and (get_or before k 0) (pair_of before k / 2 ^ shift) i
      ∙ ap₂ ◌&&◌ (sym (bit_word before k i h))
      (is_set-down (pair_of before k) shift i ∙ pair-bit k (shift + i) (omega arith) ∙ ap (bit before) place)

  -- all words but those with no bits
  pub all-narrowed : (words : ℕ) (after : List ℕ) → NoneFrom (word_bits * words) before → Renewed words (narrowed_word shift before) before after → Narrowed shift before after
  unfolding bit
  all-narrowed words after none all b = ⊎_elim (within b) (past b) (below-or-from (b / 32) words)
    where
      within : (b : ℕ) → b / 32 < words → bit after b ≡ (bit before b && bit before (b + shift))
      within b h =
          let place : 32 * (b / 32) + b % 32 ≡ b = omega arith in
          ap (λ (w : ℕ). is_set w (b % 32)) (renewed-before all (b / 32) h)
          ∙ narrowed-bit (b / 32) (b % 32) (omega arith)
          ∙ ap (λ (x : ℕ). bit before x && bit before (x + shift)) place

      past : (b : ℕ) → words ≤ b / 32 → bit after b ≡ (bit before b && bit before (b + shift))
      past b h =
          let empty : bit before b ≡ false = none b (omega arith) in
          ap (λ (w : ℕ). is_set w (b % 32)) (renewed-from all (b / 32) h)
          ∙ empty
          ∙ ap (λ (t : Bool). t && bit before (b + shift)) (sym empty)
