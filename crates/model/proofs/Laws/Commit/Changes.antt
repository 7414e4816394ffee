-- The changed words of two bitmaps: their places, their number, and that they make a valid log.
use Prim.Native.Nat.{ℕ, suc, ◌+◌, ◌-◌, ◌*◌, ◌^◌, ◌≤◌, ◌<◌}
use mathlib.Core.Path.{◌≡◌, refl, subst}
use mathlib.Core.Bool.{Bool, true, false, cond}
use mathlib.Core.List.{List, [], ◌∷◌}
use native.Mathlib.Nat.{zero-add}
use native.Mathlib.Decide.{dec_lt}
use native.Mathlib.Omega.{arith}
use lib.ListN.{length}
use lib.Dec.{eqb}
use borrow.Author.Tests.{eqb-false}
use Rattle.bitmap.specs.Sizes.{words_for}
use Rattle.bitmap.specs.Bits.{no_bits_from}
use Rattle.model.specs.Rules.Stores.{Store, ◌≔◌, changes_from, changes}
use Rattle.model.specs.Rules.Disk.{entries_valid}
use Rattle.model.proofs.Laws.Disk.Places.{Places, places-more}
use Rattle.model.proofs.Laws.Disk.Entries.{entry-valid, valid-lower, valid-length, no_bits-first, no_bits-rest}

-- changed words

pub changes_from-places : (k : ℕ) (old new : List ℕ) → Places (k + length old) (changes_from k old new)
unfolding changes_from
changes_from-places k [] new = tt
changes_from-places k (x ∷ old) [] = tt
changes_from-places k (x ∷ old) (y ∷ new) =
    go (eqb x y) (places-more (suc k + length old) (k + suc (length old)) rest (omega arith) (changes_from-places (suc k) old new))
  where
    rest : List Store
    rest = changes_from (suc k) old new

    go : (t : Bool) → Places (k + suc (length old)) rest → Places (k + suc (length old)) (cond t rest (k ≔ y ∷ rest))
    go true p = p
    go false p = (omega arith, p)

pub changes-places : (old new : List ℕ) → Places (length old) (changes old new)
changes-places old new = subst (λ (n : ℕ). Places n (changes old new)) (zero-add (length old)) (changes_from-places 0 old new)

pub changes_from-length : (k : ℕ) (old new : List ℕ) → length (changes_from k old new) ≤ length old
unfolding changes_from
changes_from-length k [] new = omega arith
changes_from-length k (x ∷ old) [] = omega arith
changes_from-length k (x ∷ old) (y ∷ new) = go (eqb x y) (changes_from-length (suc k) old new)
  where
    rest : List Store
    rest = changes_from (suc k) old new

    go : (t : Bool) → length rest ≤ length old → length (cond t rest (k ≔ y ∷ rest)) ≤ suc (length old)
    go true p = omega arith
    go false p = omega arith

pub changes-length : (old new : List ℕ) → length (changes old new) ≤ length old
changes-length old new = changes_from-length 0 old new

-- a changed word's number is below W: from W on both words are 0
changed-below : (blocks k x y : ℕ) → x < 2 ^ (blocks - 32 * k) → y < 2 ^ (blocks - 32 * k) → eqb x y ≡ false → k < words_for blocks
changed-below blocks k x y hx hy ne = go (dec_lt k (words_for blocks))
  where
    zeros : words_for blocks ≤ k → x ≡ y
    zeros le =
        let none : blocks - 32 * k ≡ 0 = omega arith in
        let hx0 : x < 2 ^ 0 = subst (λ (n : ℕ). x < 2 ^ n) none hx in
        let hy0 : y < 2 ^ 0 = subst (λ (n : ℕ). y < 2 ^ n) none hy in
        omega arith

    go : Dec (k < words_for blocks) → k < words_for blocks
    go (yes h) = h
    go (no h) = absurd (eqb-false x y ne (zeros (omega arith)))

pub changes_from-valid : (blocks k : ℕ) (old new : List ℕ)
    → no_bits_from (blocks - 32 * k) old ≡ true → no_bits_from (blocks - 32 * k) new ≡ true → entries_valid blocks k (changes_from k old new) ≡ true
unfolding changes_from entries_valid
changes_from-valid blocks k [] new p q = refl
changes_from-valid blocks k (x ∷ old) [] p q = refl
changes_from-valid blocks k (x ∷ old) (y ∷ new) p q =
    go
    (eqb x y)
    refl
    (changes_from-valid
    blocks
    (suc k)
    old
    new
    (next old (no_bits-rest (blocks - 32 * k) x old p))
    (next new (no_bits-rest (blocks - 32 * k) y new q)))
  where
    next : (words : List ℕ) → no_bits_from (blocks - 32 * k - 32) words ≡ true → no_bits_from (blocks - 32 * suc k) words ≡ true
    next words = subst (λ (n : ℕ). no_bits_from n words ≡ true) (omega arith)

    rest : List Store
    rest = changes_from (suc k) old new

    go : (t : Bool) → eqb x y ≡ t → entries_valid blocks (suc k) rest ≡ true → entries_valid blocks k (cond t rest (k ≔ y ∷ rest)) ≡ true
    go true e v = valid-lower blocks (suc k) k rest (omega arith) v
    go false e v =
        entry-valid
        blocks
        k
        (k ≔ y)
        rest
        (record {
          rising = omega arith;
          below = changed-below blocks k x y (no_bits-first (blocks - 32 * k) x old p) (no_bits-first (blocks - 32 * k) y new q) e;
          small = no_bits-first (blocks - 32 * k) y new q;
          rest = v;
        })

pub changes-valid : (blocks : ℕ) (old new : List ℕ)
    → no_bits_from blocks old ≡ true → no_bits_from blocks new ≡ true → entries_valid blocks 0 (changes old new) ≡ true
changes-valid blocks old new p q = changes_from-valid blocks 0 old new (start old p) (start new q)
  where
    start : (words : List ℕ) → no_bits_from blocks words ≡ true → no_bits_from (blocks - 32 * 0) words ≡ true
    start words = subst (λ (n : ℕ). no_bits_from n words ≡ true) (omega arith)

pub changes-count : (blocks : ℕ) (old new : List ℕ) → no_bits_from blocks old ≡ true → no_bits_from blocks new ≡ true → length (changes old new) ≤ words_for blocks
changes-count blocks old new p q =
    let h : length (changes old new) ≤ words_for blocks - 0 = valid-length blocks 0 (changes old new) (changes-valid blocks old new p q) in
    omega arith
