-- How many available blocks a word has, and the words before one.
use Prim.Native.Nat.{ℕ, ◌+◌, ◌-◌, ◌*◌, ◌^◌, ◌≤◌}
use native.Mathlib.Nat.{zero-add}
use native.Mathlib.Omega.{arith}
use mathlib.Core.Path.{◌≡◌, refl, sym, ap, ◌∙◌}
use mathlib.Core.List.{List}
use lib.ListN.{length, take}
use lib.Seq.{length-take-le}
use lib.Bits.{bit_or}
use lib.Count.{ones}
use Rattle.std.proofs.lemmas.List.{get_or-take}
use Rattle.bitmap.specs.Sizes.{word_bits, bitmap_words}
use Rattle.bitmap.specs.Bits.{IsBitmap}
use Rattle.bitmap.specs.Blocks.{is_available}
use Rattle.bitmap.proofs.Laws.Blocks.{from_end}
use Rattle.available.specs.Available.{available_word, available_from}
use Rattle.available.proofs.Laws.Available.{is_available_in, available_in-past, available_from-in, available-bits, available_whole, available_word-lt}
use Rattle.counting.specs.Count.{ones_of, count_from}
use Rattle.counting.proofs.Laws.Count.{count_word}
use Rattle.counting.proofs.Laws.Ones.{ones_left}

-- the available blocks of word k, and those from the next word on
pub available-count : (m : ℕ) (sam «com» : List ℕ) (k : ℕ) → IsBitmap sam → IsBitmap «com»
    → ones (available_word m sam «com» k) + count_from m sam «com» (k + 1) ≡ count_from m sam «com» k
available-count m sam «com» k hs hc =
    let e : 32 * (k + 1) ≡ 32 * k + 32 = omega arith in
    rw (available_from-in m sam «com» (32 * (k + 1)), available_from-in m sam «com» (32 * k), e)
    (count_word (is_available_in m sam «com») m (available_in-past m sam «com») 32 (available_word m sam «com» k) (32 * k)
    (available_word-lt m sam «com» k) (λ i l. available-bits m sam «com» k i hs hc l))

-- the ones of the words that the volume fills are the available blocks before the rest
pub ones_available : (m : ℕ) (sam «com» : List ℕ) (n : ℕ) → IsBitmap sam → IsBitmap «com» → word_bits * n ≤ m → n ≤ bitmap_words
    → ones_of (λ s c. 2 ^ 32 - 1 - bit_or s c) (take n sam) (take n «com») + count_from m sam «com» n ≡ count_from m sam «com» 0
ones_available m sam «com» n hs hc h few =
    let size = length-take-le n sam (omega (arith, hs.size)) in
    let size_com = length-take-le n «com» (omega (arith, hc.size)) in
    let all = ones_left (λ s c. 2 ^ 32 - 1 - bit_or s c) (count_from m sam «com») 0 (take n sam) (take n «com») (size_com ∙ sym size)
    (λ j l. rw (zero-add j, get_or-take n sam j 0 (omega (arith, size)), get_or-take n «com» j 0 (omega (arith, size)), available_whole m sam «com» j (m - 32 * j) refl (omega (arith, size))) (available-count m sam «com» j hs hc)) in
    rw (zero-add (length (take n sam)), size) at all

-- none is left from m on
pub available-none : (m : ℕ) (sam «com» : List ℕ) (p : ℕ) → m ≤ p → length (available_from m sam «com» p) ≡ 0
available-none m sam «com» p h = ap length (from_end (is_available sam «com») m p h)
