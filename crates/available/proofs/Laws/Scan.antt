-- Available blocks one after another: the next available block, and the first one met going round.
use Prim.Native.Nat.{ℕ, ◌≤◌, ◌<◌}
use native.Mathlib.Omega.{arith}
use mathlib.Core.Path.{◌≡◌, refl, sym, ap, ◌∙◌}
use mathlib.Core.List.{List, [], ◌∷◌, ◌++◌}
use lib.ListN.{get_or}
use Rattle.bitmap.specs.Bits.{IsBitmap}
use Rattle.bitmap.specs.Blocks.{from, is_available}
use Rattle.bitmap.specs.Round.{round_from}
use Rattle.bitmap.proofs.Laws.Round.{first_found, round-low}
use Rattle.available.specs.Search.{IsWord}
use Rattle.available.specs.Available.{available_word, available_from, next_available, next_met}
use Rattle.available.proofs.Laws.Available.{is_available_in, available_from-in, available-bits, available_word-lt}

-- ---- the next available block

-- the words of the available blocks, and no others from m on
module _ (m : ℕ) {sam «com» : List ℕ} (hs : IsBitmap sam) (hc : IsBitmap «com») where
  pub are_words : (k word : ℕ) → word ≡ available_word m sam «com» k → IsWord (is_available_in m sam «com») k word
  are_words k word is =
      rw is (record { small = available_word-lt m sam «com» k; bits = λ i h. available-bits m sam «com» k i hs hc h })

  -- what is found in them is the next available block
  pub next_found : (p : ℕ) {found : ℕ} → found ≡ get_or (from (is_available_in m sam «com») m p) 0 m → found ≡ next_available m sam «com» p
  unfolding next_available
  next_found p is = is ∙ ap (λ (l : List ℕ). get_or l 0 m) (sym (available_from-in m sam «com» p))

-- ---- the first block met

-- one found before the wrap is it
pub met_ahead : (m : ℕ) (sam «com» : List ℕ) (p : ℕ) → next_available m sam «com» p < m → next_available m sam «com» p ≡ next_met m sam «com» p
unfolding next_available next_met round_from
met_ahead m sam «com» p = go (available_from m sam «com» p)
  where
    go : (l : List ℕ) → get_or l 0 m < m → get_or l 0 m ≡ get_or (l ++ from (is_available sam «com») p 0) 0 m
    go [] h = absurd (omega arith)
    go (x ∷ l) h = refl

-- where none is, it is the lowest one
pub met_behind : (m : ℕ) (sam «com» : List ℕ) (p : ℕ) → p ≤ m → m ≤ next_available m sam «com» p
    → next_available m sam «com» 0 ≡ next_met m sam «com» p
unfolding next_available next_met
met_behind m sam «com» p inside none = sym (ap (λ (l : List ℕ). get_or l 0 m) (round-low (is_available sam «com») m p inside (go (available_from m sam «com» p) refl none)))
  where
    go : (l : List ℕ) → available_from m sam «com» p ≡ l → m ≤ get_or l 0 m → available_from m sam «com» p ≡ []
    go [] e h = e
    go (x ∷ l) e h = absurd (omega (arith, (first_found (is_available sam «com») m p x l e).1))
