-- A search by words: the lowest bit of a word, and the next block at which a test holds.
use Prim.Native.Nat.{ℕ, zero, suc, ◌+◌, ◌-◌, ◌*◌, ◌/◌, ◌%◌, ◌^◌, ◌≤◌, ◌<◌, suc-le-suc, zero-le}
use native.Mathlib.Nat.{not-suc-le-zero, lt_of_le_of_lt, pos_of_ne-zero}
use native.Mathlib.Omega.{arith}
use mathlib.Core.Path.{◌≡◌, refl, sym, ap, ◌∙◌}
use mathlib.Core.Logic.{⊎_elim}
use mathlib.Core.Bool.{Bool, true, false, cond, false≢true}
use mathlib.Core.List.{◌∷◌}
use lib.Dec.{eqb}
use lib.Count.{count_trailing_zeros, under}
use lib.Pow.{shr_le}
use borrow.Author.Tests.{eq-eqb}
use Rattle.bitmap.specs.Sizes.{word_bits}
use Rattle.bitmap.specs.Bits.{is_set}
use Rattle.bitmap.specs.Blocks.{from}
use Rattle.bitmap.proofs.Laws.Word.{is_set-low, is_set-half, is_set-zero, is_set-small, is_set-down}
use Rattle.bitmap.proofs.Laws.Bits.{below-or-from}
use Rattle.bitmap.proofs.Laws.Blocks.{from_step, from-skip}

-- ---- the lowest bit of a word

-- bit t of n is set, and none below it
record Lowest (n w t : ℕ) : Type 0 where
  below : t < n
  here : is_set w t ≡ true
  none : (i : ℕ) → i < t → is_set w i ≡ false

-- the number of zeros below the lowest bit is its place
trailing-lowest : (n w : ℕ) → w < 2 ^ n → 0 < w → Lowest n w (count_trailing_zeros n w)
unfolding count_trailing_zeros
trailing-lowest zero w h pos = absurd (omega arith)
trailing-lowest (suc n) w h pos = go (w % 2) refl (λ p. trailing-lowest n (w / 2) (omega arith) p)
  where
    even : w % 2 ≡ 0 → (t : ℕ) → Lowest n (w / 2) t → (i : ℕ) → i < suc t → is_set w i ≡ false
    even e t l zero k = is_set-low w ∙ ap (λ (x : ℕ). eqb x 1) e
    even e t l (suc i) k = is_set-half w i ∙ l.none i (omega arith)

    go : (d : ℕ) → w % 2 ≡ d → (0 < w / 2 → Lowest n (w / 2) (count_trailing_zeros n (w / 2))) → Lowest (suc n) w (under d (count_trailing_zeros n (w / 2)))
    go zero e rest =
        let l = rest (omega arith) in
        record {
          below = suc-le-suc l.below;
          here = is_set-half w (count_trailing_zeros n (w / 2)) ∙ l.here;
          none = even e (count_trailing_zeros n (w / 2)) l;
        }
    go (suc d) e rest =
        record {
          below = suc-le-suc zero-le;
          here = is_set-low w ∙ eq-eqb (w % 2) 1 (omega arith);
          none = λ i k. absurd (not-suc-le-zero k);
        }

-- ---- the next block at which a test holds

-- the test holds at no block from m on, and p's word has a bit for each of its blocks at which it holds
pub record WordAt (test : ℕ → Bool) (m p word : ℕ) : Type 0 where
  pub small : word < 2 ^ word_bits
  pub bits : (i : ℕ) → i < 32 → is_set word i ≡ test (32 * (p / 32) + i)
  pub past : (b : ℕ) → m ≤ b → test b ≡ false

module _ {test : ℕ → Bool} {m p word : ℕ} (at : WordAt test m p word) where
  -- the bits of the word from p on, p's lowest
  abbrev rest : ℕ
  rest = word / 2 ^ (p % 32)

  rest-bit : (i : ℕ) → p % 32 + i < 32 → is_set rest i ≡ test (p + i)
  rest-bit i h = is_set-down word (p % 32) i ∙ at.bits (p % 32 + i) h ∙ ap test (omega arith)

  -- a bit of it is one of the word
  rest-within : (i : ℕ) → is_set rest i ≡ true → p % 32 + i < 32
  rest-within i e = ⊎_elim (λ h. h) past (below-or-from (p % 32 + i) 32)
    where
      past : 32 ≤ p % 32 + i → p % 32 + i < 32
      past h = absurd (false≢true (sym (is_set-small word 32 (p % 32 + i) at.small h) ∙ sym (is_set-down word (p % 32) i) ∙ e))

  -- there are none: the test holds at no block of the word from p on
  pub next_word : rest ≡ 0 → from test m p ≡ from test m ((p / 32 + 1) * 32)
  next_word e = from-skip test m p ((p / 32 + 1) * 32) (omega arith) none
    where
      none : (b : ℕ) → p ≤ b → b < (p / 32 + 1) * 32 → test b ≡ false
      none b l h =
          ap test (omega arith)
          ∙ sym (rest-bit (b - p) (omega arith))
          ∙ ap (λ (x : ℕ). is_set x (b - p)) e
          ∙ is_set-zero (b - p)

  -- there are some: the lowest is the next block
  module _ (t : ℕ) (low : Lowest 32 rest t) where
    found-holds : test (p + t) ≡ true
    found-holds = sym (rest-bit t (rest-within t low.here)) ∙ low.here

    found_below : p + t < m
    found_below = ⊎_elim (λ h. h) (λ h. absurd (false≢true (sym (at.past (p + t) h) ∙ found-holds))) (below-or-from (p + t) m)

    passed : (b : ℕ) → p ≤ b → b < p + t → test b ≡ false
    passed b l h =
        let within = rest-within t low.here in
        ap test (omega arith) ∙ sym (rest-bit (b - p) (omega arith)) ∙ low.none (b - p) (omega arith)

    found-next : from test m p ≡ (p + t) ∷ from test m (suc (p + t))
    found-next =
        from-skip test m p (p + t) (omega arith) passed
        ∙ from_step test m (p + t) found_below
        ∙ ap (λ (x : Bool). cond x ((p + t) ∷ from test m (suc (p + t))) (from test m (suc (p + t)))) found-holds

  pub next-found : (rest ≡ 0 → ⊥)
      → let q : ℕ = p + count_trailing_zeros 32 rest in
      (q < m) × (from test m p ≡ q ∷ from test m (suc q))
  next-found some = (found_below (count_trailing_zeros 32 rest) lowest, found-next (count_trailing_zeros 32 rest) lowest)
    where
      lowest : Lowest 32 rest (count_trailing_zeros 32 rest)
      lowest = trailing-lowest 32 rest (lt_of_le_of_lt (shr_le word (p % 32)) at.small) (pos_of_ne-zero some)
