-- The first available blocks met taken one after the other.
use Prim.Native.Nat.{ℕ, ◌+◌, ◌≤◌, ◌<◌}
use native.Mathlib.Numerals.{add-one}
use native.Mathlib.Omega.{arith}
use mathlib.Core.Path.{◌≡◌, refl, sym, ap, ◌∙◌}
use mathlib.Core.Bool.{◌||◌}
use mathlib.Core.List.{List, [], ◌∷◌, ◌++◌}
use lib.ListN.{length, get_or, set, take, drop}
use lib.Seq.{drop-cons, take-suc}
use Rattle.bitmap.specs.Bits.{bit, bitmap_of}
use Rattle.bitmap.specs.Blocks.{is_available, available_blocks, member}
use Rattle.bitmap.specs.Round.{round_from, wrapped, after_last}
use Rattle.bitmap.proofs.Laws.Bits.{bitmap_of-bit}
use Rattle.bitmap.proofs.Laws.Blocks.{get_or-member}
use Rattle.bitmap.proofs.Laws.Round.{member-round, round-length, round_same, round-wrapped, without, after-met-lt, round-drop, wrapped-below, after-last-snoc, available-without}
use Rattle.bitops.specs.Block.{put_bit}
use Rattle.available.specs.Take.{CanTake, Takes, first_blocks}
use Rattle.available.specs.Available.{available_round, next_met}
use Rattle.bitops.proofs.Laws.Overwrite.{overwritten-step}
use Rattle.bitops.proofs.Laws.Block.{put-member}

-- the bitmap of m blocks with the blocks of a list besides those of words
abbrev with_blocks : ℕ → List ℕ → List ℕ → List ℕ
with_blocks m blocks words = bitmap_of m (λ b. member b blocks || bit words b)

-- the first n blocks met have been taken, and the search goes on at next
pub record Taken (m cursor : ℕ) (sam com₀ tam₀ list₀ : List ℕ) (n next : ℕ) («com» tam list : List ℕ) : Type 0 where
  pub takes : Takes m n (first_blocks m cursor n sam com₀) com₀ tam₀ list₀ «com» tam list
  pub at : wrapped m next ≡ after_last m cursor (first_blocks m cursor n sam com₀)
  pub inside : next ≤ m

module _ {m cursor count : ℕ} {sam com₀ tam₀ list₀ : List ℕ} (can : CanTake m cursor count sam com₀ tam₀ list₀) where
  -- before the first
  pub taken_none : Taken m cursor sam com₀ tam₀ list₀ 0 cursor com₀ tam₀ list₀
  unfolding member after_last
  taken_none =
      record {
        takes =
            record {
              in_com = sym (bitmap_of-bit m com₀ can.volume can.is_com can.end_of_com);
              in_tam = sym (bitmap_of-bit m tam₀ can.volume can.is_tam can.end_of_tam);
              listed = refl;
            };
        at = wrapped-below m cursor can.inside;
        inside = omega (arith, can.inside);
      }

  -- all that are met, in order, by the COM of the start
  abbrev all : List ℕ
  all = available_round m sam com₀ cursor

  -- they are as many as there are
  enough-met : count ≤ length all
  unfolding available_blocks
  enough-met = omega (arith, can.enough, round-length (is_available sam com₀) m cursor (omega (arith, can.inside)))

  module _ {n next : ℕ} {«com» tam list : List ℕ} (taken : Taken m cursor sam com₀ tam₀ list₀ n next «com» tam list) where
    module _ (more : n < count) {found : ℕ} (is : found ≡ next_met m sam «com» next) where
      -- what is met from next on is what is left
      left : available_round m sam «com» next ≡ drop n all
      left =
          sym (round-wrapped (is_available sam «com») m next)
          ∙ ap (round_from (is_available sam «com») m) taken.at
          ∙ round_same (is_available sam «com») (without (is_available sam com₀) (take n all)) m _ (omega (arith, after-met-lt (is_available sam com₀) m cursor can.inside n))
          (λ b h.
          ap (λ (words : List ℕ). is_available sam words b) taken.takes.in_com
          ∙ available-without m sam com₀ (take n all) b can.volume h)
          ∙ round-drop (is_available sam com₀) m cursor can.inside n (omega (arith, enough-met))

      -- so the next block is the n-th
      found_here : found ≡ get_or all n 0
      unfolding next_met
      found_here = is ∙ ap (λ (l : List ℕ). get_or l 0 m) (left ∙ drop-cons all n 0 (omega (arith, enough-met)))

      -- it is one of the volume's
      pub found_below : found < m
      found_below =
          (member-round (is_available sam com₀) m cursor (omega (arith, can.inside)) found
          (rw found_here (get_or-member all n (omega (arith, enough-met))))).0

      one_more : take (n + 1) all ≡ take n all ++ (found ∷ [])
      one_more = rw (add-one n) (take-suc all n 0 (omega (arith, enough-met)) ∙ ap (λ (x : ℕ). take n all ++ (x ∷ [])) (sym found_here))

      put-more : (words was : List ℕ) → words ≡ with_blocks m (take n all) was → put_bit words found ≡ with_blocks m (take (n + 1) all) was
      put-more words was e =
          ap (λ (l : List ℕ). put_bit l found) e
          ∙ put-member m (take n all) (bit was) found can.volume found_below
          ∙ ap (λ (l : List ℕ). with_blocks m l was) (sym one_more)

      -- with the next block put and listed, one more is taken
      pub taken_more : Taken m cursor sam com₀ tam₀ list₀ (n + 1) (found + 1) (put_bit «com» found) (put_bit tam found) (set list n found)
      taken_more =
          record {
            takes =
                record {
                  in_com = put-more «com» com₀ taken.takes.in_com;
                  in_tam = put-more tam tam₀ taken.takes.in_tam;
                  listed = rw found_here (overwritten-step n all list₀ list (omega (arith, enough-met)) (omega (arith, can.room)) taken.takes.listed);
                };
            at =
                ap (wrapped m) (add-one found)
                ∙ sym (ap (after_last m cursor) one_more ∙ after-last-snoc m cursor (take n all) found);
            inside = omega (arith, found_below);
          }
