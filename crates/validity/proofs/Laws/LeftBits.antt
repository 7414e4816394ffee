-- Where two bitmaps differ, and that all of a bitmap is left, bit by bit.
use Prim.Native.Nat.{ℕ, ◌+◌, ◌-◌, ◌*◌, ◌/◌, ◌%◌, ◌^◌, ◌≤◌, ◌<◌}
use native.Mathlib.Omega.{arith}
use mathlib.Core.Path.{◌≡◌, refl, sym, ap, ap₂, ◌∙◌}
use mathlib.Core.Logic.{⊎_elim}
use mathlib.Core.Bool.{Bool, true, false, not, xor, ◌&&◌, false≢true}
use mathlib.Core.List.{List}
use lib.ListN.{get_or}
use lib.Bits.{bit_and, and_lt}
use lib.Pow.{ones_sub-lt}
use borrow.Author.Tests.{eqb-true, eq-eqb}
use Rattle.bitmap.specs.Sizes.{max_blocks, word_bits, bitmap_words}
use Rattle.bitmap.specs.Bits.{is_set, bit, IsBitmap}
use Rattle.bitmap.proofs.Laws.Word.{is_set-zero, is_set-and, is_set-xor, is_set-not, word-ext}
use Rattle.bitmap.proofs.Laws.Bits.{below-or-from, bit_word, bit-beyond}
use Rattle.bitmap.proofs.Laws.Blocks.{all_below-at, all_below-all}
use Rattle.touches.specs.Left.{differ, word_left, all_left}
use Rattle.touches.proofs.Laws.Differ.{differ-at}

-- ---- where two differ

pub bit-differ : (u v : List ℕ) → IsBitmap u → IsBitmap v → (b : ℕ) → bit (differ u v) b ≡ xor (bit u b) (bit v b)
unfolding bit
bit-differ u v hu hv b =
    ap (λ (w : ℕ). is_set w (b % 32)) (differ-at u v hu hv (b / 32)) ∙ is_set-xor (get_or u (b / 32) 0) (get_or v (b / 32) 0) (b % 32)

-- ---- all is left, bit by bit

-- a touch that is left, by a table
touch-left : (t l : Bool) → (t && not l) ≡ false → t ≡ true → l ≡ true
touch-left true true e h = refl
touch-left true false e h = sym e
touch-left false l e h = absurd (false≢true h)

left-touch : (t l : Bool) → (t ≡ true → l ≡ true) → (t && not l) ≡ false
left-touch true l h = ap not (h refl)
left-touch false l h = refl

module _ (left touched : List ℕ) (left_is : IsBitmap left) (touched_is : IsBitmap touched) where
  -- bit i of what is touched in word k and isn't left there
  wrong-bit : (k i : ℕ) → i < word_bits
      → is_set (bit_and (get_or touched k 0) (2 ^ word_bits - 1 - get_or left k 0)) i ≡ (is_set (get_or touched k 0) i && not (is_set (get_or left k 0) i))
  wrong-bit k i l =
      is_set-and (get_or touched k 0) (2 ^ word_bits - 1 - get_or left k 0) i
      ∙ ap (λ (t : Bool). is_set (get_or touched k 0) i && t) (is_set-not word_bits (get_or left k 0) i (left_is.small k) l)

  pub left-bits : all_left left touched ≡ true → (b : ℕ) → bit touched b ≡ true → bit left b ≡ true
  unfolding all_left bit
  left-bits h b t = ⊎_elim within past (below-or-from b max_blocks)
    where
      k : ℕ
      k = b / 32

      within : b < max_blocks → bit left b ≡ true
      within l =
          let none : bit_and (get_or touched k 0) (2 ^ word_bits - 1 - get_or left k 0) ≡ 0 =
          eqb-true _ 0 (all_below-at bitmap_words (word_left left touched) k h (omega arith)) in
          touch-left (bit touched b) (bit left b)
          (sym (wrong-bit k (b % 32) (omega arith)) ∙ ap (λ (w : ℕ). is_set w (b % 32)) none ∙ is_set-zero (b % 32))
          t

      past : max_blocks ≤ b → bit left b ≡ true
      past l = absurd (false≢true (sym (bit-beyond touched b touched_is.size l) ∙ t))

  pub bits_left : ((b : ℕ) → bit touched b ≡ true → bit left b ≡ true) → all_left left touched ≡ true
  unfolding all_left
  bits_left h = all_below-all bitmap_words (word_left left touched) (λ k l. eq-eqb _ 0 (none k))
    where
      none : (k : ℕ) → bit_and (get_or touched k 0) (2 ^ word_bits - 1 - get_or left k 0) ≡ 0
      none k =
          word-ext word_bits (bit_and (get_or touched k 0) (2 ^ word_bits - 1 - get_or left k 0)) 0
          (and_lt word_bits (get_or touched k 0) (2 ^ word_bits - 1 - get_or left k 0) (touched_is.small k) (ones_sub-lt word_bits (get_or left k 0)))
          (omega arith)
          (λ i l.
          wrong-bit k i l
          ∙ ap₂ (λ (t u : Bool). t && not u) (sym (bit_word touched k i l)) (sym (bit_word left k i l))
          ∙ left-touch (bit touched (32 * k + i)) (bit left (32 * k + i)) (h (32 * k + i))
          ∙ sym (is_set-zero i))
