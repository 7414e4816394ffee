-- A word's bits, at any width: which bits a word has, and that a word is known by them.
use Prim.Native.Nat.{ℕ, zero, suc, ◌+◌, ◌-◌, ◌*◌, ◌/◌, ◌%◌, ◌^◌, ◌≤◌, ◌<◌, zero-le, min, max}
use native.Mathlib.Nat.{div-one, add-zero, add-suc, suc-add, sub-zero, zero-div, div-eq_of_lt, pow-succ', div-div-eq-div-mul, not-suc-le-zero, le_of_suc-le-suc}
use native.Mathlib.Omega.{arith}
use mathlib.Core.Path.{◌≡◌, refl, sym, ap, ap₂, ◌∙◌}
use mathlib.Core.Bool.{Bool, true, false, not, xor, cond, ◌&&◌, ◌||◌, and-true}
use lib.Dec.{eqb, ltb, eqb-suc-suc, eqb-zero-suc, eqb-suc-zero}
use lib.Pow.{pow_pos, pow_mono, ones_lt, shr-shr, shl-shr}
use lib.Bits.{bit_and, bit_or, bit_xor, differ, and_step, or_step, xor_step, and_mask, shifted_half, shifted_even}
use borrow.Author.Tests.{ltb-true, ltb-false, lt-ltb}
use Rattle.bitmap.specs.Bits.{is_set, word_of}

-- ---- the lowest bit, and the rest

-- bit 0 is the lowest binary digit
pub is_set-low : (w : ℕ) → is_set w 0 ≡ eqb (w % 2) 1
unfolding is_set
is_set-low w = rw div-one

-- bit i + 1 is bit i of the half
pub is_set-half : (w i : ℕ) → is_set w (suc i) ≡ is_set (w / 2) i
unfolding is_set
is_set-half w i = rw (pow-succ', ← div-div-eq-div-mul w 2 (2 ^ i))

-- a digit below 2 is 1 or 0
digit : (d : ℕ) → d < 2 → d ≡ cond (eqb d 1) 1 0
digit zero h = refl
digit (suc zero) h = refl
digit (suc (suc d)) h = omega arith

-- a word is its half and its lowest bit
pub half-and-low : (w : ℕ) → w ≡ w / 2 * 2 + cond (is_set w 0) 1 0
half-and-low w = rw is_set-low (omega (arith, digit (w % 2) (omega arith)))

-- a bit put below a word is its lowest
low_of : (w : ℕ) (b : Bool) → is_set (w * 2 + cond b 1 0) 0 ≡ b
low_of w true = let e : (w * 2 + 1) % 2 ≡ 1 = omega arith in rw (is_set-low, e)
low_of w false = let e : (w * 2 + 0) % 2 ≡ 0 = omega arith in rw (is_set-low, e)

-- and the word is the half
half_of : (w : ℕ) (b : Bool) → (w * 2 + cond b 1 0) / 2 ≡ w
half_of w true = omega arith
half_of w false = omega arith

-- and bit i of the word is bit i + 1
high-of : (w : ℕ) (b : Bool) (i : ℕ) → is_set (w * 2 + cond b 1 0) (suc i) ≡ is_set w i
high-of w b i = rw (is_set-half, half_of w b)

-- ---- words with few bits

-- 0 has no bits
pub is_set-zero : (i : ℕ) → is_set 0 i ≡ false
unfolding is_set
is_set-zero i = rw zero-div

-- a word below 2 ^ n has no bits from n on
pub is_set-small : (w n i : ℕ) → w < 2 ^ n → n ≤ i → is_set w i ≡ false
unfolding is_set
is_set-small w n i h l =
    let s : w < 2 ^ i = omega (arith, pow_mono l) in
    rw (div-eq_of_lt s)

-- two words of n bits are one if their bits are
pub word-ext : (n a b : ℕ) → a < 2 ^ n → b < 2 ^ n → ((i : ℕ) → i < n → is_set a i ≡ is_set b i) → a ≡ b
word-ext zero a b h k same = omega arith
word-ext (suc n) a b h k same =
    half-and-low a
    ∙ ap₂ (λ (x : ℕ) (y : Bool). x * 2 + cond y 1 0)
    (word-ext n (a / 2) (b / 2) (omega arith) (omega arith) (λ i l. sym (is_set-half a i) ∙ same (suc i) (omega arith) ∙ is_set-half b i))
    (same 0 (omega arith))
    ∙ sym (half-and-low b)

-- a word with no bits from k on is below 2 ^ k
pub small-is_set : (w n k : ℕ) → w < 2 ^ n → ((i : ℕ) → k ≤ i → i < n → is_set w i ≡ false) → w < 2 ^ k
small-is_set w n zero h none =
    let e : w ≡ 0 = word-ext n w 0 h (pow_pos n) (λ i l. none i zero-le l ∙ sym (is_set-zero i)) in
    omega arith
small-is_set w zero (suc k) h none = omega (arith, pow_pos (suc k))
small-is_set w (suc n) (suc k) h none =
    let s : w / 2 < 2 ^ k = small-is_set (w / 2) n k (omega arith) (λ i l m. sym (is_set-half w i) ∙ none (suc i) (omega arith) (omega arith)) in
    omega arith

-- ---- a word of given bits

-- a word of n bits is below 2 ^ n
pub word_of-lt : (f : ℕ → Bool) (p n : ℕ) → word_of f p n < 2 ^ n
unfolding word_of
word_of-lt f p zero = omega arith
word_of-lt f p (suc n) = go (f (p + n)) (word_of-lt f p n)
  where
    go : (b : Bool) → word_of f p n < 2 ^ n → cond b (2 ^ n) 0 + word_of f p n < 2 ^ suc n
    go true h = omega arith
    go false h = omega arith

-- its lowest bit is f's first, and its half has the others
word_of-low : (f : ℕ → Bool) (p n : ℕ) → word_of f p (suc n) ≡ word_of f (suc p) n * 2 + cond (f p) 1 0
unfolding word_of
word_of-low f p zero = rw (add-zero p) (go (f p))
  where
    go : (b : Bool) → cond b 1 0 + 0 ≡ 0 * 2 + cond b 1 0
    go true = refl
    go false = refl
word_of-low f p (suc n) = rw (add-suc p n, ← suc-add p n) (go (f (suc p + n)) (word_of f p (suc n)) (word_of f (suc p) n) (cond (f p) 1 0) (word_of-low f p n))
  where
    go : (b : Bool) (x y z : ℕ) → x ≡ y * 2 + z → cond b (2 ^ suc n) 0 + x ≡ (cond b (2 ^ n) 0 + y) * 2 + z
    go true x y z e = let g : 2 ^ suc n + x ≡ (2 ^ n + y) * 2 + z = omega arith in g
    go false x y z e = omega arith

-- the bits of a word are those of the f that it is of
pub is_set-word_of : (f : ℕ → Bool) (p n i : ℕ) → i < n → is_set (word_of f p n) i ≡ f (p + i)
is_set-word_of f p zero i h = absurd (not-suc-le-zero h)
is_set-word_of f p (suc n) zero h = rw (word_of-low f p n, add-zero) (low_of (word_of f (suc p) n) (f p))
is_set-word_of f p (suc n) (suc i) h =
    rw (word_of-low f p n, high-of (word_of f (suc p) n) (f p) i) (is_set-word_of f (suc p) n i (omega arith) ∙ ap f (omega arith))

-- ---- the operations, bit by bit

module _ (op f : ℕ → ℕ → ℕ) (g : Bool → Bool → Bool)
    (step : (a b : ℕ) → op a b ≡ op (a / 2) (b / 2) * 2 + f (a % 2) (b % 2))
    (table : (x y : Bool) → f (cond x 1 0) (cond y 1 0) ≡ cond (g x y) 1 0) where
  -- the lowest bit of the result is that of the lowest bits
  op-low : (a b : ℕ) → op a b ≡ op (a / 2) (b / 2) * 2 + cond (g (is_set a 0) (is_set b 0)) 1 0
  op-low a b = step a b ∙ ap (λ (x : ℕ). op (a / 2) (b / 2) * 2 + x) (ap₂ f (low a) (low b) ∙ table (is_set a 0) (is_set b 0))
    where
      low : (w : ℕ) → w % 2 ≡ cond (is_set w 0) 1 0
      low w = omega (arith, half-and-low w)

  -- an operation on digits is one on bits
  is_set-op : (a b i : ℕ) → is_set (op a b) i ≡ g (is_set a i) (is_set b i)
  is_set-op a b zero = rw (op-low a b) (low_of (op (a / 2) (b / 2)) (g (is_set a 0) (is_set b 0)))
  is_set-op a b (suc i) =
      rw (op-low a b, high-of (op (a / 2) (b / 2)) (g (is_set a 0) (is_set b 0)) i)
      (is_set-op (a / 2) (b / 2) i ∙ sym (ap₂ g (is_set-half a i) (is_set-half b i)))

-- or, bit by bit
pub is_set-or : (a b i : ℕ) → is_set (bit_or a b) i ≡ (is_set a i || is_set b i)
is_set-or = is_set-op bit_or max ◌||◌ or_step table
  where
    table : (x y : Bool) → max (cond x 1 0) (cond y 1 0) ≡ cond (x || y) 1 0
    table true true = refl
    table true false = refl
    table false true = refl
    table false false = refl

-- and, bit by bit
pub is_set-and : (a b i : ℕ) → is_set (bit_and a b) i ≡ (is_set a i && is_set b i)
is_set-and = is_set-op bit_and min ◌&&◌ and_step table
  where
    table : (x y : Bool) → min (cond x 1 0) (cond y 1 0) ≡ cond (x && y) 1 0
    table true true = refl
    table true false = refl
    table false true = refl
    table false false = refl

-- exclusive or, bit by bit
pub is_set-xor : (a b i : ℕ) → is_set (bit_xor a b) i ≡ xor (is_set a i) (is_set b i)
unfolding xor
is_set-xor = is_set-op bit_xor differ xor xor_step table
  where
    table : (x y : Bool) → differ (cond x 1 0) (cond y 1 0) ≡ cond (xor x y) 1 0
    table true true = refl
    table true false = refl
    table false true = refl
    table false false = refl

-- the lowest bit of a complement is turned
not_low : (w a : ℕ) → a < 2 ^ suc w → 2 ^ suc w - 1 - a ≡ (2 ^ w - 1 - a / 2) * 2 + cond (not (is_set a 0)) 1 0
not_low w a h = go (is_set a 0) (half-and-low a)
  where
    go : (b : Bool) → a ≡ a / 2 * 2 + cond b 1 0 → 2 ^ suc w - 1 - a ≡ (2 ^ w - 1 - a / 2) * 2 + cond (not b) 1 0
    go true e = omega arith
    go false e = omega arith

-- the complement of w bits turns each
pub is_set-not : (w a i : ℕ) → a < 2 ^ w → i < w → is_set (2 ^ w - 1 - a) i ≡ not (is_set a i)
is_set-not zero a i h l = absurd (not-suc-le-zero l)
is_set-not (suc w) a zero h l = rw (not_low w a h) (low_of (2 ^ w - 1 - a / 2) (not (is_set a 0)))
is_set-not (suc w) a (suc i) h l =
    rw (not_low w a h, high-of (2 ^ w - 1 - a / 2) (not (is_set a 0)) i)
    (is_set-not w (a / 2) i (omega arith) (omega arith) ∙ sym (ap not (is_set-half a i)))

-- the word with one bit
pub is_set-pow : (j i : ℕ) → is_set (2 ^ j) i ≡ eqb i j
is_set-pow zero zero = is_set-low 1
is_set-pow zero (suc i) = is_set-half 1 i ∙ is_set-zero i ∙ sym (eqb-suc-zero i)
is_set-pow (suc j) zero = let e : 2 ^ suc j % 2 ≡ 0 = omega arith in rw (is_set-low, e) (sym (eqb-zero-suc j))
is_set-pow (suc j) (suc i) =
    let e : 2 ^ suc j / 2 ≡ 2 ^ j = omega arith in
    is_set-half (2 ^ suc j) i ∙ ap (λ (x : ℕ). is_set x i) e ∙ is_set-pow j i ∙ sym (eqb-suc-suc i j)

-- ---- words cut and shifted

-- the n lowest bits
pub is_set-ones : (n i : ℕ) → is_set (2 ^ n - 1) i ≡ ltb i n
is_set-ones n i = go (ltb i n) refl
  where
    go : (t : Bool) → ltb i n ≡ t → is_set (2 ^ n - 1) i ≡ t
    go true e = ap (λ (x : ℕ). is_set x i) (sym (sub-zero (2 ^ n - 1))) ∙ is_set-not n 0 i (pow_pos n) (ltb-true i n e) ∙ ap not (is_set-zero i)
    go false e = is_set-small (2 ^ n - 1) n i (ones_lt n) (ltb-false i n e)

-- the bits below n of a word cut there are the word's
pub is_set-cut : (w n i : ℕ) → i < n → is_set (w % 2 ^ n) i ≡ is_set w i
is_set-cut w n i h =
    ap (λ (x : ℕ). is_set x i) (sym (and_mask w n))
    ∙ is_set-and w (2 ^ n - 1) i
    ∙ ap (λ (t : Bool). is_set w i && t) (is_set-ones n i ∙ lt-ltb i n h)
    ∙ and-true (is_set w i)

-- a word's bits, shifted down
pub is_set-down : (w j i : ℕ) → is_set (w / 2 ^ j) i ≡ is_set w (j + i)
unfolding is_set
is_set-down w j i = ap (λ (x : ℕ). eqb (x % 2) 1) (shr-shr w j i)

-- and shifted up: those from j on are the word's,
pub is_set-up : (w j i : ℕ) → is_set (w * 2 ^ j) (j + i) ≡ is_set w i
is_set-up w j i = sym (is_set-down (w * 2 ^ j) j i) ∙ ap (λ (x : ℕ). is_set x i) (shl-shr w j)

-- and there are none below
pub is_set-below : (w j i : ℕ) → i < j → is_set (w * 2 ^ j) i ≡ false
is_set-below w zero i h = absurd (not-suc-le-zero h)
is_set-below w (suc j) zero h = is_set-low (w * 2 ^ suc j) ∙ ap (λ (x : ℕ). eqb x 1) (shifted_even w j)
is_set-below w (suc j) (suc i) h =
    is_set-half (w * 2 ^ suc j) i ∙ ap (λ (x : ℕ). is_set x i) (shifted_half w j) ∙ is_set-below w j i (le_of_suc-le-suc h)
