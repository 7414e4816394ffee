-- The words whose ones are the blocks of whole bitmaps at which a test holds.
use Prim.Native.Nat.{ℕ, ◌+◌, ◌-◌, ◌*◌, ◌^◌, ◌≤◌, ◌<◌}
use native.Mathlib.Nat.{zero-add}
use native.Mathlib.Omega.{arith}
use mathlib.Core.Path.{◌≡◌, sym, ap, ap₂, ◌∙◌}
use mathlib.Core.Bool.{Bool, false, not, xor, ◌&&◌, and-false}
use mathlib.Core.List.{List}
use lib.ListN.{length, get_or}
use lib.Bits.{bit_and, bit_xor, and_lt, xor_lt}
use lib.Pow.{ones_sub-lt}
use lib.Count.{ones}
use Rattle.bitmap.specs.Sizes.{max_blocks, word_bits, bitmap_words}
use Rattle.bitmap.specs.Bits.{is_set, bit, IsBitmap}
use Rattle.bitmap.specs.Blocks.{from, is_allocating, is_freeing, allocated_blocks, allocating_blocks, freeing_blocks}
use Rattle.bitmap.proofs.Laws.Word.{is_set-and, is_set-xor, is_set-not}
use Rattle.bitmap.proofs.Laws.Bits.{bit_word, bit-beyond}
use Rattle.bitmap.proofs.Laws.Blocks.{from_end}
use Rattle.counting.specs.Count.{ones_of, differing, count_differing}
use Rattle.counting.proofs.Laws.Count.{count_word}
use Rattle.counting.proofs.Laws.Ones.{ones_left}

-- a word whose bits are the test's
record IsWord (test : ℕ → Bool) (k word : ℕ) : Type 0 where
  small : word < 2 ^ word_bits
  bits : (i : ℕ) → i < word_bits → is_set word i ≡ test (word_bits * k + i)

-- two lists of as many words as a bitmap has, whose words make the test's
module _ (test : ℕ → Bool) (g : ℕ → ℕ → ℕ) (left right : List ℕ) (size : length left ≡ bitmap_words) (size_right : length right ≡ bitmap_words)
    (past : (b : ℕ) → max_blocks ≤ b → test b ≡ false)
    (are : (k : ℕ) → IsWord test k (g (get_or left k 0) (get_or right k 0))) where
  abbrev behind : ℕ → ℕ
  behind k = length (from test max_blocks (word_bits * k))

  counted : (k : ℕ) → ones (g (get_or left k 0) (get_or right k 0)) + behind (k + 1) ≡ behind k
  counted k =
      let next : word_bits * (k + 1) ≡ word_bits * k + 32 = omega arith in
      rw next (count_word test max_blocks past 32 (g (get_or left k 0) (get_or right k 0)) (word_bits * k) (are k).small (are k).bits)

  -- the ones of all are the blocks at which it holds
  ones-blocks : ones_of g left right ≡ length (from test max_blocks 0)
  ones-blocks =
      let all = ones_left g behind 0 left right (size_right ∙ sym size)
      (λ j h. rw (zero-add j) (counted j)) in
      let end : length (from test max_blocks (word_bits * length left)) ≡ 0 = ap length (from_end test max_blocks (word_bits * length left) (omega arith)) in
      omega (arith, rw (zero-add (length left)) at all, end)

module _ (sam «com» : List ℕ) (is_sam : IsBitmap sam) (is_com : IsBitmap «com») where
  -- the allocated blocks: SAM's
  pub ones-allocated : ones_of (λ s c. s) sam «com» ≡ length (allocated_blocks max_blocks sam)
  unfolding allocated_blocks
  ones-allocated =
      ones-blocks (bit sam) (λ s c. s) sam «com» is_sam.size is_com.size (λ b h. bit-beyond sam b is_sam.size h)
      (λ k. record { small = is_sam.small k; bits = λ i l. sym (bit_word sam k i l) })

  -- those being allocated: COM's without SAM's
  pub ones-allocating : ones_of (λ s c. bit_and (2 ^ 32 - 1 - s) c) sam «com» ≡ length (allocating_blocks max_blocks sam «com»)
  unfolding allocating_blocks is_allocating
  ones-allocating =
      ones-blocks (is_allocating sam «com») (λ s c. bit_and (2 ^ 32 - 1 - s) c) sam «com» is_sam.size is_com.size
      (λ b h. rw (bit-beyond «com» b is_com.size h) (and-false (not (bit sam b))))
      (λ k.
      record {
        small = and_lt 32 (2 ^ 32 - 1 - get_or sam k 0) (get_or «com» k 0) (ones_sub-lt 32 (get_or sam k 0)) (is_com.small k);
        bits =
            λ i l.
            is_set-and (2 ^ 32 - 1 - get_or sam k 0) (get_or «com» k 0) i
            ∙ ap₂ (λ (x y : Bool). x && y) (is_set-not 32 (get_or sam k 0) i (is_sam.small k) l ∙ ap not (sym (bit_word sam k i l))) (sym (bit_word «com» k i l));
      })

  -- those being freed: SAM's without COM's
  pub ones-freeing : ones_of (λ s c. bit_and s (2 ^ 32 - 1 - c)) sam «com» ≡ length (freeing_blocks max_blocks sam «com»)
  unfolding freeing_blocks is_freeing
  ones-freeing =
      ones-blocks (is_freeing sam «com») (λ s c. bit_and s (2 ^ 32 - 1 - c)) sam «com» is_sam.size is_com.size
      (λ b h. rw (bit-beyond sam b is_sam.size h))
      (λ k.
      record {
        small = and_lt 32 (get_or sam k 0) (2 ^ 32 - 1 - get_or «com» k 0) (is_sam.small k) (ones_sub-lt 32 (get_or «com» k 0));
        bits =
            λ i l.
            is_set-and (get_or sam k 0) (2 ^ 32 - 1 - get_or «com» k 0) i
            ∙ ap₂ (λ (x y : Bool). x && y) (sym (bit_word sam k i l)) (is_set-not 32 (get_or «com» k 0) i (is_com.small k) l ∙ ap not (sym (bit_word «com» k i l)));
      })

  -- those at which the two differ
  pub ones-differing : ones_of bit_xor sam «com» ≡ count_differing sam «com»
  unfolding xor
  ones-differing =
      ones-blocks (differing sam «com») bit_xor sam «com» is_sam.size is_com.size
      (λ b h. ap₂ xor (bit-beyond sam b is_sam.size h) (bit-beyond «com» b is_com.size h))
      (λ k.
      record {
        small = xor_lt 32 (get_or sam k 0) (get_or «com» k 0) (is_sam.small k) (is_com.small k);
        bits = λ i l. is_set-xor (get_or sam k 0) (get_or «com» k 0) i ∙ ap₂ xor (sym (bit_word sam k i l)) (sym (bit_word «com» k i l));
      })
