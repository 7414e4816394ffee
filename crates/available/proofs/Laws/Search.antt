-- A search upwards, a word at a time: what is passed and what is found.
use Prim.Native.Nat.{ℕ, ◌+◌, ◌*◌, ◌/◌, ◌%◌, ◌^◌, ◌≤◌, ◌<◌}
use mathlib.Core.Path.{◌≡◌, sym, ap}
use mathlib.Core.Bool.{Bool, false}
use mathlib.Core.List.{List}
use lib.ListN.{get_or}
use lib.Count.{count_trailing_zeros}
use Rattle.bitmap.specs.Blocks.{from}
use Rattle.bitmap.proofs.Laws.Blocks.{from_end}
use Rattle.bitmap.proofs.Laws.Search.{WordAt, next_word, next-found}
use Rattle.available.specs.Search.{IsWord}

module _ {test : ℕ → Bool} {m : ℕ} (past : (b : ℕ) → m ≤ b → test b ≡ false) (p : ℕ) where
  module _ {word : ℕ} (is : IsWord test (p / 32) word) where
    here : WordAt test m p word
    here = record { small = is.small; bits = is.bits; past = past }

    -- a word with no bit left is passed
    pub word_passed : word / 2 ^ (p % 32) ≡ 0 → from test m p ≡ from test m ((p / 32 + 1) * 32)
    word_passed e = next_word here e

    -- in one that has one the lowest is found
    pub word_found : (word / 2 ^ (p % 32) ≡ 0 → ⊥)
        → let q : ℕ = p + count_trailing_zeros 32 (word / 2 ^ (p % 32)) in
        (q < m) × (q ≡ get_or (from test m p) 0 m)
    word_found some = let found = next-found here some in (found.0, sym (ap (λ (l : List ℕ). get_or l 0 m) found.1))

  -- at the end there is none
  pub none_found : m ≤ p → m ≡ get_or (from test m p) 0 m
  none_found h = sym (ap (λ (l : List ℕ). get_or l 0 m) (from_end test m p h))
