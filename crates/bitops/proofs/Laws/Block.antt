-- One block's bit set or cleared: which bits the words have then, and that they are a bitmap.
use Prim.Native.Nat.{ℕ, zero, suc, ◌-◌, ◌*◌, ◌/◌, ◌%◌, ◌^◌, ◌≤◌, ◌<◌}
use native.Mathlib.Nat.{one-mul}
use native.Mathlib.Omega.{arith}
use mathlib.Core.Path.{◌≡◌, refl, sym, ap, ◌∙◌}
use mathlib.Core.Logic.{◌⊎◌, inl, inr, ⊎_elim}
use mathlib.Core.Bool.{Bool, true, false, not, ◌&&◌, ◌||◌, or_comm, and_comm, or_assoc, or-false}
use mathlib.Core.List.{List, [], ◌∷◌, ◌++◌}
use lib.ListN.{length, get_or, set, length-set}
use lib.Seq.{get_or-set_same, get_or-set_other}
use lib.Dec.{eqb}
use lib.Pow.{pow-lt, shl_exact, ones_sub-lt}
use lib.Bits.{bit_and, bit_or, or_lt, and_lt, and_mask}
use borrow.Author.Tests.{eqb-true, eqb-false, eq-eqb, ne_eqb}
use Rattle.bitmap.specs.Sizes.{max_blocks, word_bits}
use Rattle.bitmap.specs.Bits.{is_set, bit, bitmap_of, no_bits_from, IsBitmap}
use Rattle.bitmap.specs.Blocks.{member}
use Rattle.bitmap.proofs.Laws.Word.{is_set-or, is_set-and, is_set-not, is_set-pow}
use Rattle.bitmap.proofs.Laws.Bits.{no_bits-bit, bitmap_of-is, no_bits-bitmap_of, bit_below, bitmap_of-same}
use Rattle.bitmap.proofs.Laws.Blocks.{member-append}
use Rattle.bitops.specs.Block.{put_bit, clear_bit}
use Rattle.bitops.proofs.Laws.Bitmap.{bitmap-of-bits}

-- ---- words

-- 1 shifted by i is the word with bit i
pub shift_one : (i : ℕ) → i < 32 → 1 * 2 ^ i % 2 ^ 32 ≡ 2 ^ i
shift_one i h = shl_exact 1 i 32 (omega arith) (omega arith) ∙ one-mul (2 ^ i)

-- a word's bit i is the lowest of the word shifted by i
pub has_bit : (w i : ℕ) → eqb (bit_and (w / 2 ^ i) 1) 1 ≡ is_set w i
unfolding is_set
has_bit w i = ap (λ (x : ℕ). eqb x 1) (and_mask (w / 2 ^ i) 1)

-- ---- a word put in a block's place

-- a number is another or not
same-or-other : (a b : ℕ) → (a ≡ b) ⊎ (a ≡ b → ⊥)
same-or-other a b = go (eqb a b) refl
  where
    go : (t : Bool) → eqb a b ≡ t → (a ≡ b) ⊎ (a ≡ b → ⊥)
    go true e = inl (eqb-true a b e)
    go false e = inr (eqb-false a b e)

-- small words stay small with a small one put among them
set-small : (words : List ℕ) (k v j : ℕ) → ((i : ℕ) → get_or words i 0 < 2 ^ word_bits) → v < 2 ^ word_bits
    → get_or (set words k v) j 0 < 2 ^ word_bits
set-small [] k v j h l = h j
set-small (w ∷ ws) zero v zero h l = l
set-small (w ∷ ws) zero v (suc j) h l = h (suc j)
set-small (w ∷ ws) (suc k) v zero h l = h 0
set-small (w ∷ ws) (suc k) v (suc j) h l = set-small ws k v j (λ i. h (suc i)) l

-- and a bitmap stays one
set_is : (words : List ℕ) (k v : ℕ) → IsBitmap words → v < 2 ^ word_bits → IsBitmap (set words k v)
set_is words k v is h = record { size = length-set words k v ∙ is.size; small = λ j. set-small words k v j is.small h }

-- of two blocks of one word, the places in it tell them apart
eqb-place : (b x : ℕ) → b / 32 ≡ x / 32 → eqb (b % 32) (x % 32) ≡ eqb b x
eqb-place b x e =
    ⊎_elim (λ q. eq-eqb (b % 32) (x % 32) (ap (λ (n : ℕ). n % 32) q) ∙ sym (eq-eqb b x q))
    (λ q. ne_eqb (b % 32) (x % 32) (λ r. q (omega arith)) ∙ sym (ne_eqb b x q)) (same-or-other b x)

-- a word v in the place of block x's word w alters the bits by g, where v's bits are w's altered so at x's bit, and
-- g leaves all other blocks
bit-set : (g : Bool → Bool → Bool) (words : List ℕ) (x v b : ℕ) → x / 32 < length words
    → ((t : Bool) → g false t ≡ t)
    → ((i : ℕ) → i < 32 → is_set v i ≡ g (eqb i (x % 32)) (is_set (get_or words (x / 32) 0) i))
    → bit (set words (x / 32) v) b ≡ g (eqb b x) (bit words b)
unfolding bit
bit-set g words x v b h leaves alters = ⊎_elim here there (same-or-other (b / 32) (x / 32))
  where
    here : b / 32 ≡ x / 32 → is_set (get_or (set words (x / 32) v) (b / 32) 0) (b % 32) ≡ g (eqb b x) (is_set (get_or words (b / 32) 0) (b % 32))
    here e = rw (e, get_or-set_same words (x / 32) v 0 h, ← eqb-place b x e) (alters (b % 32) (omega arith))

    there : (b / 32 ≡ x / 32 → ⊥)
        → is_set (get_or (set words (x / 32) v) (b / 32) 0) (b % 32) ≡ g (eqb b x) (is_set (get_or words (b / 32) 0) (b % 32))
    there e = rw (get_or-set_other words (x / 32) (b / 32) v 0 e, ne_eqb b x (λ q. e (ap (λ (n : ℕ). n / 32) q)), leaves)

-- ---- a bit set

put_word : (w j i : ℕ) → is_set (bit_or w (2 ^ j)) i ≡ (eqb i j || is_set w i)
put_word w j i = is_set-or w (2 ^ j) i ∙ ap (λ (t : Bool). is_set w i || t) (is_set-pow j i) ∙ or_comm (is_set w i) (eqb i j)

-- the block's bit is 1 then, and the others are as they were
pub bit-put : (words : List ℕ) (x b : ℕ) → IsBitmap words → x < max_blocks → bit (put_bit words x) b ≡ (eqb b x || bit words b)
unfolding put_bit
bit-put words x b is h =
    bit-set ◌||◌ words x (bit_or (get_or words (x / 32) 0) (2 ^ (x % 32))) b (omega (arith, is.size)) (λ t. refl)
    (λ i l. put_word (get_or words (x / 32) 0) (x % 32) i)

-- a bit below 32 is one of a word
bit-lt : (j : ℕ) → j < 32 → 2 ^ j < 2 ^ 32
bit-lt j h = pow-lt h

pub put_is : (words : List ℕ) (x : ℕ) → IsBitmap words → IsBitmap (put_bit words x)
unfolding put_bit
put_is words x is =
    set_is words (x / 32) (bit_or (get_or words (x / 32) 0) (2 ^ (x % 32))) is
    (or_lt 32 (get_or words (x / 32) 0) (2 ^ (x % 32)) (is.small (x / 32)) (bit-lt (x % 32) (omega arith)))

-- ---- a bit cleared

clear-word : (w j i : ℕ) → j < 32 → i < 32 → is_set (bit_and w (2 ^ 32 - 1 - 2 ^ j)) i ≡ (not (eqb i j) && is_set w i)
clear-word w j i h l =
    is_set-and w (2 ^ 32 - 1 - 2 ^ j) i
    ∙ ap (λ (t : Bool). is_set w i && t) (is_set-not 32 (2 ^ j) i (bit-lt j h) l ∙ ap not (is_set-pow j i))
    ∙ and_comm (is_set w i) (not (eqb i j))

-- the block's bit is 0 then, and the others are as they were
pub bit-clear : (words : List ℕ) (x b : ℕ) → IsBitmap words → x < max_blocks → bit (clear_bit words x) b ≡ (not (eqb b x) && bit words b)
unfolding clear_bit
bit-clear words x b is h =
    bit-set (λ s t. not s && t) words x (bit_and (get_or words (x / 32) 0) (2 ^ 32 - 1 - 2 ^ (x % 32))) b (omega (arith, is.size))
    (λ t. refl) (λ i l. clear-word (get_or words (x / 32) 0) (x % 32) i (omega arith) l)

pub clear-is : (words : List ℕ) (x : ℕ) → IsBitmap words → IsBitmap (clear_bit words x)
unfolding clear_bit
clear-is words x is =
    set_is words (x / 32) (bit_and (get_or words (x / 32) 0) (2 ^ 32 - 1 - 2 ^ (x % 32))) is
    (and_lt 32 (get_or words (x / 32) 0) (2 ^ 32 - 1 - 2 ^ (x % 32)) (is.small (x / 32)) (ones_sub-lt 32 (2 ^ (x % 32))))

-- ---- as bitmaps of m blocks

module _ (m : ℕ) (words : List ℕ) (x : ℕ) (h : m ≤ max_blocks) (below : x < m)
    (is : IsBitmap words) (none : no_bits_from m words ≡ true) where
  -- words whose bits are altered by g at block x: from m on no block is x, and no bit is set
  altered : (g : Bool → Bool → Bool) (new : List ℕ) → IsBitmap new → g false false ≡ false
      → ((b : ℕ) → bit new b ≡ g (eqb b x) (bit words b))
      → new ≡ bitmap_of m (λ b. g (eqb b x) (bit words b))
  altered g new is_new clear bits =
      bitmap-of-bits m new (λ b. g (eqb b x) (bit words b)) h is_new (λ b l. bits b)
      (λ b l u. bits b ∙ rw (ne_eqb b x (λ e. omega arith), no_bits-bit m words b none l) clear)

  pub put-bitmap : put_bit words x ≡ bitmap_of m (λ b. eqb b x || bit words b)
  put-bitmap = altered ◌||◌ (put_bit words x) (put_is words x is) refl (λ b. bit-put words x b is (omega arith))

  pub clear-bitmap : clear_bit words x ≡ bitmap_of m (λ b. not (eqb b x) && bit words b)
  clear-bitmap = altered (λ s t. not s && t) (clear_bit words x) (clear-is words x is) refl (λ b. bit-clear words x b is (omega arith))

-- a block is one more at a list's end
member-snoc : (b x : ℕ) (bs : List ℕ) → (eqb b x || member b bs) ≡ member b (bs ++ (x ∷ []))
unfolding member
member-snoc b x bs = or_comm (eqb b x) (member b bs) ∙ ap (λ (t : Bool). member b bs || t) (sym (or-false (eqb b x))) ∙ sym (member-append b bs (x ∷ []))

-- the blocks of a list, with one more put at its end
pub put-member : (m : ℕ) (bs : List ℕ) (f : ℕ → Bool) (x : ℕ) → m ≤ max_blocks → x < m
    → put_bit (bitmap_of m (λ b. member b bs || f b)) x ≡ bitmap_of m (λ b. member b (bs ++ (x ∷ [])) || f b)
put-member m bs f x h below =
    put-bitmap m (bitmap_of m had) x h below (bitmap_of-is m had) (no_bits-bitmap_of m had)
    ∙ bitmap_of-same m (λ b. eqb b x || bit (bitmap_of m had) b) (λ b. member b (bs ++ (x ∷ [])) || f b)
    (λ b l. ap (λ (t : Bool). eqb b x || t) (bit_below m had b h l)
    ∙ sym (or_assoc (eqb b x) (member b bs) (f b))
    ∙ ap (λ (t : Bool). t || f b) (member-snoc b x bs))
  where
    had : ℕ → Bool
    had b = member b bs || f b
