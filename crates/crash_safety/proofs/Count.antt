-- The ledger's d is the memory's: its two sets have blocks in just the bitmap words that the commit changes.
use Prim.Native.Nat.{ℕ, zero, suc, ◌+◌, ◌*◌, ◌/◌, ◌%◌, ◌^◌, ◌<◌}
use native.Mathlib.Omega.{arith}
use mathlib.Core.Path.{◌≡◌, refl, sym, ap, ap₂, ◌∙◌}
use mathlib.Core.Bool.{Bool, true, false, not, cond, xor, ◌||◌, false≢true, or-true}
use mathlib.Core.List.{List, [], ◌∷◌}
use lib.ListN.{length, get_or, drop, drop_of_length-le}
use lib.Seq.{drop-cons}
use lib.Dec.{eqb}
use borrow.Author.Tests.{eqb-true, eq-eqb, ne_eqb}
use Rattle.bitmap.specs.Sizes.{word_bits, bitmap_words}
use Rattle.bitmap.specs.Bits.{bit, is_set}
use Rattle.bitmap.specs.Blocks.{member}
use Rattle.bitmap.proofs.Laws.Bits.{word-of-bits}
use Rattle.model.proofs.Laws.Commit.Commit.{same_or_not}
use Rattle.model.proofs.Laws.Touched.Touches.{xor_self}
use Rattle.model.specs.Rules.Stores.{Store, ◌≔◌, changes_from, changes}
use Rattle.crash_safety.specs.Ledger.{has_word, words_from}

-- a block in the list, by its word
member-has_word : (b : ℕ) (blocks : List ℕ) → member b blocks ≡ true → has_word (b / 32) blocks ≡ true
unfolding member has_word
member-has_word b [] e = e
member-has_word b (x ∷ blocks) e = go (eqb b x) refl e (member-has_word b blocks)
  where
    go : (t : Bool) → eqb b x ≡ t → (t || member b blocks) ≡ true → (member b blocks ≡ true → has_word (b / 32) blocks ≡ true)
        → (eqb (x / 32) (b / 32) || has_word (b / 32) blocks) ≡ true
    go true f p ih = ap (λ (t : Bool). t || has_word (b / 32) blocks) (eq-eqb (x / 32) (b / 32) (ap (λ (n : ℕ). n / 32) (sym (eqb-true b x f))))
    go false f p ih = ap (λ (t : Bool). eqb (x / 32) (b / 32) || t) (ih p) ∙ or-true (eqb (x / 32) (b / 32))

-- a word that the list has a block in
has_word-member : (k : ℕ) (blocks : List ℕ) → has_word k blocks ≡ true → (b : ℕ) × (member b blocks ≡ true) × (b / 32 ≡ k)
unfolding member has_word
has_word-member k [] e = absurd (false≢true e)
has_word-member k (x ∷ blocks) e = go (eqb (x / 32) k) refl e (has_word-member k blocks)
  where
    go : (t : Bool) → eqb (x / 32) k ≡ t → (t || has_word k blocks) ≡ true
        → (has_word k blocks ≡ true → (b : ℕ) × (member b blocks ≡ true) × (b / 32 ≡ k))
        → (b : ℕ) × ((eqb b x || member b blocks) ≡ true) × (b / 32 ≡ k)
    go true f p ih = (x, ap (λ (t : Bool). t || member x blocks) (eq-eqb x x refl), eqb-true (x / 32) k f)
    go false f p ih =
        let found = ih p in
        (found.0, ap (λ (t : Bool). eqb found.0 x || t) found.1 ∙ or-true (eqb found.0 x), found.2)

module _ (sam new blocks : List ℕ)
    (small-sam : (k : ℕ) → get_or sam k 0 < 2 ^ word_bits)
    (small-new : (k : ℕ) → get_or new k 0 < 2 ^ word_bits)
    (changed : (b : ℕ) → member b blocks ≡ xor (bit sam b) (bit new b)) where
  -- the bits of a word that stays
  same_bit : (b k : ℕ) → b / 32 ≡ k → get_or sam k 0 ≡ get_or new k 0 → bit sam b ≡ bit new b
  unfolding bit
  same_bit b k q same =
      ap (λ (n : ℕ). is_set (get_or sam n 0) (b % 32)) q
      ∙ ap (λ (w : ℕ). is_set w (b % 32)) same
      ∙ sym (ap (λ (n : ℕ). is_set (get_or new n 0) (b % 32)) q)

  -- the list has a block in a word just where the word changes
  word-changes : (k : ℕ) → has_word k blocks ≡ not (eqb (get_or sam k 0) (get_or new k 0))
  unfolding bit
  word-changes k = go (has_word k blocks) refl
    where
      go : (t : Bool) → has_word k blocks ≡ t → has_word k blocks ≡ not (eqb (get_or sam k 0) (get_or new k 0))
      go true e =
          let found = has_word-member k blocks e in
          let differs : xor (bit sam found.0) (bit new found.0) ≡ true = sym (changed found.0) ∙ found.1 in
          e ∙ sym (ap not (ne_eqb (get_or sam k 0) (get_or new k 0) (λ same.
          false≢true
          (sym (ap (xor (bit sam found.0)) (sym (same_bit found.0 k found.2 same)) ∙ xor_self (bit sam found.0)) ∙ differs))))
      go false e =
          e ∙ sym (ap not (eq-eqb (get_or sam k 0) (get_or new k 0) (word-of-bits sam new k (small-sam k) (small-new k) (λ i h. same i h))))
        where
          none-there : (b : ℕ) → b / 32 ≡ k → (t : Bool) → member b blocks ≡ t → member b blocks ≡ false
          none-there b q true p =
              absurd (false≢true (sym e ∙ sym (ap (λ (n : ℕ). has_word n blocks) q) ∙ member-has_word b blocks p))
          none-there b q false p = p

          same : (i : ℕ) → i < 32 → bit sam (32 * k + i) ≡ bit new (32 * k + i)
          same i h =
              same_or_not (bit sam (32 * k + i)) (bit new (32 * k + i))
              (sym (changed (32 * k + i)) ∙ none-there (32 * k + i) (omega arith) (member (32 * k + i) blocks) refl)

  count-from : (n k : ℕ) → k + n ≡ length sam → k + n ≡ length new → words_from k n blocks ≡ length (changes_from k (drop k sam) (drop k new))
  unfolding words_from changes_from
  count-from zero k l m =
      sym (ap (λ (old : List ℕ). length (changes_from k old (drop k new))) (drop_of_length-le sam {i = k} (omega arith)))
  count-from (suc n) k l m =
      ap₂ ◌+◌ (ap (λ (t : Bool). cond t 1 0) (word-changes k)) (count-from n (suc k) (omega arith) (omega arith))
      ∙ step (eqb (get_or sam k 0) (get_or new k 0)) refl
      ∙ sym (ap₂ (λ (old other : List ℕ). length (changes_from k old other)) (drop-cons sam k 0 (omega arith)) (drop-cons new k 0 (omega arith)))
    where
      rest : List Store
      rest = changes_from (suc k) (drop (suc k) sam) (drop (suc k) new)

      step : (t : Bool) → eqb (get_or sam k 0) (get_or new k 0) ≡ t → cond (not t) 1 0 + length rest ≡ length (cond t rest (k ≔ get_or new k 0 ∷ rest))
      step true e = omega arith
      step false e = omega arith

  pub words-changed : length sam ≡ bitmap_words → length new ≡ bitmap_words → words_from 0 bitmap_words blocks ≡ length (changes sam new)
  words-changed l m = count-from bitmap_words 0 (omega arith) (omega arith)
