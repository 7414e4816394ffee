-- Bitmaps compared word by word: what a loop over the words has found, and what is left.
use Prim.Native.Nat.{ℕ, zero, suc, ◌+◌, ◌-◌, ◌*◌, ◌/◌, ◌%◌, ◌^◌, ◌≤◌, ◌<◌}
use native.Mathlib.Nat.{sub-zero, div-eq_of_lt, div-lt_iff_lt-mul, one-mul, pos_of_ne-zero}
use native.Mathlib.Numerals.{add-one}
use native.Mathlib.Omega.{arith}
use mathlib.Core.Path.{◌≡◌, refl, sym, ap, ◌∙◌}
use mathlib.Core.Bool.{Bool, true, false, cond, ◌&&◌, and_assoc, and-true}
use mathlib.Core.List.{List, [], ◌∷◌}
use lib.ListN.{length, get_or, take, drop, length-drop, drop_of_length-le}
use lib.Seq.{drop-cons, take_all}
use lib.Dec.{eqb, ltb}
use lib.Pointwise.{pointwise}
use lib.Bits.{bit_or, bit_xor, and_le_l, and_le_r, or_add_and, xor_add_and, xor_self}
use lib.Pow.{pow_pos, pow_mono}
use borrow.Author.Tests.{eqb-true, eqb-false, eq-eqb, ne_eqb, lt-ltb, le-ltb, ltb-true, ltb-false}
use Rattle.std.proofs.lemmas.List.{nil_from_length}
use Rattle.bitmap.specs.Sizes.{word_bits, bitmap_words}
use Rattle.bitmap.specs.Bits.{no_bits_from}
use Rattle.model.specs.Rules.Valid.{same_words}
use Rattle.model.specs.Rules.Stores.{Store, ◌≔◌, changes_from}

-- ---- words

-- an or is 0 just if both are
pub eqb-or : (a b : ℕ) → eqb (bit_or a b) 0 ≡ (eqb a 0 && eqb b 0)
eqb-or a b = go (eqb a 0) refl
  where
    go : (t : Bool) → eqb a 0 ≡ t → eqb (bit_or a b) 0 ≡ (t && eqb b 0)
    go true e = ap (λ (x : ℕ). eqb (bit_or x b) 0) (eqb-true a 0 e)
    go false e = ne_eqb (bit_or a b) 0 (λ q. eqb-false a 0 e (omega (arith, or_add_and a b, and_le_r a b)))

-- an exclusive or is 0 just if the two are the same
pub eqb-xor : (a b : ℕ) → eqb (bit_xor a b) 0 ≡ eqb a b
eqb-xor a b = go (eqb a b) refl
  where
    go : (t : Bool) → eqb a b ≡ t → eqb (bit_xor a b) 0 ≡ t
    go true e = eq-eqb (bit_xor a b) 0 (ap (bit_xor a) (sym (eqb-true a b e)) ∙ xor_self a)
    go false e = ne_eqb (bit_xor a b) 0 (λ q. eqb-false a b e (omega (arith, xor_add_and a b, and_le_l a b, and_le_r a b)))

-- a word that is 0 when shifted by i is below 2 ^ i
shifted-lt : (w i : ℕ) → w / 2 ^ i ≡ 0 → w < 2 ^ i
shifted-lt w i e = rw one-mul at ((div-lt_iff_lt-mul (pow_pos i)).0 one)
  where
    one : w / 2 ^ i < 1
    one = omega arith

-- a word is below 2 ^ i just if it is 0 when shifted by i
pub eqb-shift : (w i : ℕ) → eqb (w / 2 ^ i) 0 ≡ ltb w (2 ^ i)
eqb-shift w i = go (ltb w (2 ^ i)) refl
  where
    go : (t : Bool) → ltb w (2 ^ i) ≡ t → eqb (w / 2 ^ i) 0 ≡ t
    go true e = eq-eqb (w / 2 ^ i) 0 (div-eq_of_lt (ltb-true w (2 ^ i) e))
    go false e =
        ne_eqb (w / 2 ^ i) 0
        (λ q. omega (arith, ltb-false w (2 ^ i) e, shifted-lt w i q))

-- ---- the same words

-- words that are equal each to each are the same
pub same_words_pointwise : (a b : List ℕ) → pointwise eqb a b ≡ same_words a b
unfolding same_words
same_words_pointwise [] [] = refl
same_words_pointwise [] (y ∷ ys) = refl
same_words_pointwise (x ∷ xs) [] = refl
same_words_pointwise (x ∷ xs) (y ∷ ys) = ap (λ (t : Bool). eqb x y && t) (same_words_pointwise xs ys)

-- ---- no bits

-- a word below 1 is 0
ltb-one : (w : ℕ) → ltb w 1 ≡ eqb w 0
ltb-one w = go (eqb w 0) refl
  where
    go : (t : Bool) → eqb w 0 ≡ t → ltb w 1 ≡ t
    go true e = lt-ltb w 1 (omega (arith, eqb-true w 0 e))
    go false e = le-ltb w 1 (pos_of_ne-zero (eqb-false w 0 e))

-- the words from k on are 0 if that at k is, and those after
pub zero_step : (words : List ℕ) (k bits : ℕ) → k < length words
    → (eqb bits 0 && no_bits_from 0 (drop k words)) ≡ (eqb (bit_or bits (get_or words k 0)) 0 && no_bits_from 0 (drop (k + 1) words))
unfolding no_bits_from
zero_step words k bits h =
    rw (drop-cons words k 0 h, add-one k, ltb-one (get_or words k 0), eqb-or bits (get_or words k 0))
    (sym (and_assoc (eqb bits 0) (eqb (get_or words k 0) 0) (no_bits_from 0 (drop (suc k) words))))

-- past the last word there are none
pub zero_end : (words : List ℕ) (k bits : ℕ) → length words ≤ k → (eqb bits 0 && no_bits_from 0 (drop k words)) ≡ eqb bits 0
unfolding no_bits_from
zero_end words k bits h = rw (drop_of_length-le words h) (and-true (eqb bits 0))

-- whole words below m have no bits from m on
no_bits-drop : (m : ℕ) (words : List ℕ) (k : ℕ) → ((i : ℕ) → get_or words i 0 < 2 ^ word_bits) → 32 * k ≤ m
    → no_bits_from m words ≡ no_bits_from (m - 32 * k) (drop k words)
unfolding no_bits_from
no_bits-drop m words zero small h = rw sub-zero
no_bits-drop m [] (suc k) small h = refl
no_bits-drop m (w ∷ ws) (suc k) small h =
    let e : m - 32 - 32 * k ≡ m - 32 * suc k = omega arith in
    let below : w < 2 ^ m = omega (arith, small 0, pow_mono {i = 32} {j = m} (omega arith)) in
    rw (lt-ltb w (2 ^ m) below, ← e) (no_bits-drop (m - 32) ws k (λ i. small (suc i)) (omega arith))

module _ (m : ℕ) (words : List ℕ) (size : length words ≡ bitmap_words) (small : (i : ℕ) → get_or words i 0 < 2 ^ word_bits) where
  -- the words from word m div 32 on
  abbrev behind : List ℕ
  behind = take (bitmap_words - m / 32) (drop (m / 32) words)

  dropped : no_bits_from m words ≡ no_bits_from (m - 32 * (m / 32)) behind
  dropped =
      no_bits-drop m words (m / 32) small (omega arith)
      ∙ ap (no_bits_from (m - 32 * (m / 32)))
      (sym (take_all (bitmap_words - m / 32) (drop (m / 32) words) (omega (arith, length-drop (m / 32) words))))

  -- no bits from m on: none from m mod 32 on in word m div 32, and none in the words after
  pub no_bits_words : {word : ℕ} {rest : List ℕ} → behind ≡ word ∷ rest
      → no_bits_from m words ≡ (eqb (word / 2 ^ (m % 32)) 0 && no_bits_from 0 rest)
  unfolding no_bits_from
  no_bits_words {word} {rest} e =
      let first : m - 32 * (m / 32) ≡ m % 32 = omega arith in
      let later : m % 32 - 32 ≡ 0 = omega arith in
      dropped ∙ rw (e, first, later, ← eqb-shift word (m % 32))

  -- and past the last word there are none
  pub no_bits_no_words : length behind ≡ 0 → no_bits_from m words ≡ true
  unfolding no_bits_from
  no_bits_no_words e = dropped ∙ rw (nil_from_length behind e)

-- ---- changed words

-- one more where the first two words differ
pub changes_step : (k x y : ℕ) (xs ys : List ℕ)
    → length (changes_from k (x ∷ xs) (y ∷ ys)) ≡ cond (eqb x y) 0 1 + length (changes_from (k + 1) xs ys)
unfolding changes_from
changes_step k x y xs ys = rw (add-one k) (go (eqb x y) (changes_from (suc k) xs ys))
  where
    go : (t : Bool) (rest : List Store) → length (cond t rest (k ≔ y ∷ rest)) ≡ cond t 0 1 + length rest
    go true rest = omega arith
    go false rest = omega arith

-- none where one of the two has no words
pub changes_none_old : (k : ℕ) (xs ys : List ℕ) → length xs ≡ 0 → length (changes_from k xs ys) ≡ 0
unfolding changes_from
changes_none_old k [] ys h = refl
changes_none_old k (x ∷ xs) ys h = absurd (omega arith)

pub changes_none_new : (k : ℕ) (xs ys : List ℕ) → length ys ≡ 0 → length (changes_from k xs ys) ≡ 0
unfolding changes_from
changes_none_new k [] ys h = refl
changes_none_new k (x ∷ xs) [] h = refl
changes_none_new k (x ∷ xs) (y ∷ ys) h = absurd (omega arith)

-- none past the last word
pub changes-end : (old new : List ℕ) (k : ℕ) → length old ≤ k → length (changes_from k (drop k old) (drop k new)) ≡ 0
unfolding changes_from
changes-end old new k h = rw (drop_of_length-le old h)

-- a word counts for one at most
pub one_at_most : (t : Bool) → cond t 0 1 ≤ 1
one_at_most true = omega arith
one_at_most false = omega arith
