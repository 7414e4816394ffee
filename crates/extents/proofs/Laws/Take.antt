-- An extent's blocks taken one after the other.
use Prim.Native.Nat.{ℕ, ◌+◌, ◌≤◌, ◌<◌}
use native.Mathlib.Numerals.{add-one}
use native.Mathlib.Omega.{arith}
use mathlib.Core.Path.{◌≡◌, refl, sym, ap, ◌∙◌}
use mathlib.Core.Bool.{true, ◌||◌}
use mathlib.Core.List.{List, [], ◌∷◌, ◌++◌}
use lib.ListN.{length, get_or, set, take}
use lib.Seq.{take-suc, take_all}
use Rattle.bitmap.specs.Sizes.{max_blocks}
use Rattle.bitmap.specs.Bits.{bit, bitmap_of, no_bits_from, IsBitmap}
use Rattle.bitmap.specs.Blocks.{member}
use Rattle.bitmap.specs.Extents.{adjoining}
use Rattle.bitmap.proofs.Laws.Bits.{bitmap_of-bit}
use Rattle.bitmap.proofs.Laws.Extents.{length-adjoining, get_or-adjoining}
use Rattle.bitops.specs.Block.{put_bit}
use Rattle.bitops.proofs.Laws.Overwrite.{overwritten-step}
use Rattle.bitops.proofs.Laws.Block.{put-member}
use Rattle.available.specs.Take.{Takes}

-- the first n of the extent's blocks are taken
abbrev pub TakenTo : ℕ → ℕ → ℕ → List ℕ → List ℕ → List ℕ → ℕ → List ℕ → List ℕ → List ℕ → Type 0
TakenTo m start count com₀ tam₀ list₀ n «com» tam list = Takes m n (take n (adjoining start count)) com₀ tam₀ list₀ «com» tam list

-- before the first
pub taken_none : {m : ℕ} (start count : ℕ) {com₀ tam₀ list₀ : List ℕ} → m ≤ max_blocks → IsBitmap com₀ → IsBitmap tam₀
    → no_bits_from m com₀ ≡ true
    → no_bits_from m tam₀ ≡ true
    → TakenTo m start count com₀ tam₀ list₀ 0 com₀ tam₀ list₀
unfolding member
taken_none {m} start count {com₀} {tam₀} h hc ht nc nt =
    record { in_com = sym (bitmap_of-bit m com₀ h hc nc); in_tam = sym (bitmap_of-bit m tam₀ h ht nt); listed = refl }

module _ {m : ℕ} (start count : ℕ) {n : ℕ} {com₀ tam₀ list₀ «com» tam list : List ℕ} (volume : m ≤ max_blocks) (within : start + count ≤ m)
    (taken : TakenTo m start count com₀ tam₀ list₀ n «com» tam list) where
  -- with the next block put and listed, one more
  pub taken_more : n < count → n < length list₀
      → TakenTo m start count com₀ tam₀ list₀ (n + 1) (put_bit «com» (start + n)) (put_bit tam (start + n)) (set list n (start + n))
  taken_more more room =
      record {
        in_com = put-more «com» com₀ taken.in_com;
        in_tam = put-more tam tam₀ taken.in_tam;
        listed = rw (← here) (overwritten-step n (adjoining start count) list₀ list there room taken.listed);
      }
    where
      there : n < length (adjoining start count)
      there = omega (arith, length-adjoining start count)

      here : get_or (adjoining start count) n 0 ≡ start + n
      here = get_or-adjoining start count n 0 more

      one_more : take (n + 1) (adjoining start count) ≡ take n (adjoining start count) ++ ((start + n) ∷ [])
      one_more =
          rw (add-one n)
          (take-suc (adjoining start count) n 0 there ∙ ap (λ (x : ℕ). take n (adjoining start count) ++ (x ∷ [])) here)

      put-more : (words was : List ℕ) → words ≡ bitmap_of m (λ b. member b (take n (adjoining start count)) || bit was b)
          → put_bit words (start + n) ≡ bitmap_of m (λ b. member b (take (n + 1) (adjoining start count)) || bit was b)
      put-more words was e =
          ap (λ (l : List ℕ). put_bit l (start + n)) e
          ∙ put-member m (take n (adjoining start count)) (bit was) (start + n) volume (omega arith)
          ∙ ap (λ (l : List ℕ). bitmap_of m (λ b. member b l || bit was b)) (sym one_more)

  -- in the end all are
  pub taken-all : n ≡ count → Takes m count (adjoining start count) com₀ tam₀ list₀ «com» tam list
  taken-all e = rw (take_all n (adjoining start count) (omega (arith, length-adjoining start count)), e) at taken
