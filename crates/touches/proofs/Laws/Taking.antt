-- The loop that takes what a slot has touched from what is left, after k words.
use Prim.Native.Nat.{ℕ, ◌+◌, ◌-◌, ◌^◌, ◌≤◌, ◌<◌}
use native.Mathlib.Numerals.{add-one}
use native.Mathlib.Omega.{arith}
use mathlib.Core.Path.{◌≡◌, refl, sym, ap, ◌∙◌}
use mathlib.Core.Bool.{Bool, ◌&&◌, and_comm}
use mathlib.Core.List.{List}
use lib.ListN.{length, get_or, set}
use lib.Bits.{bit_and, bit_or, bit_xor}
use lib.Dec.{eqb}
use Rattle.bitmap.specs.Sizes.{word_bits, bitmap_words}
use Rattle.bitmap.specs.Blocks.{all_below}
use Rattle.bitops.proofs.Laws.Compare.{eqb-or}
use Rattle.bitops.proofs.Laws.Overwrite.{Overwritten, overwritten-at, overwritten-step, overwritten-all}
use Rattle.touches.specs.Left.{differ, word_left, all_left, TouchedTaken}
use Rattle.touches.proofs.Laws.Differ.{length-differ, get_or-differ}
use Rattle.touches.proofs.Laws.Words.{not_left}

-- the touched blocks of these words are taken, and `wrong` has those that weren't left
pub record Taking (old touched left : List ℕ) (wrong k : ℕ) : Type 0 where
  pub few : k ≤ bitmap_words
  pub written : Overwritten k (differ old touched) old left
  pub found : eqb wrong 0 ≡ all_below k (word_left old touched)

pub taking_none : (old touched : List ℕ) → Taking old touched old 0 0
unfolding all_below
taking_none old touched = record { few = omega arith; written = refl; found = refl }

module _ (old sam tam left : List ℕ) (wrong k : ℕ)
    (so_old : length old ≡ bitmap_words) (so_sam : length sam ≡ bitmap_words) (so_tam : length tam ≡ bitmap_words)
    (so : Taking old (differ tam sam) left wrong k) where
  abbrev touched : List ℕ
  touched = differ tam sam

  touched-size : length touched ≡ bitmap_words
  touched-size = length-differ tam sam (so_sam ∙ sym so_tam) ∙ so_tam

  left-size : length (differ old touched) ≡ bitmap_words
  left-size = length-differ old touched (touched-size ∙ sym so_old) ∙ so_old

  -- one word more
  pub taking_more : k < bitmap_words
      → get_or left k 0 < 2 ^ word_bits
      → bit_xor (get_or tam k 0) (get_or sam k 0) < 2 ^ word_bits
      → Taking old touched (set left k (bit_xor (get_or left k 0) (bit_xor (get_or tam k 0) (get_or sam k 0))))
      (bit_or wrong (bit_and (bit_xor (get_or tam k 0) (get_or sam k 0)) (bit_xor (get_or left k 0) (bit_xor (get_or tam k 0) (get_or sam k 0)))))
      (k + 1)
  unfolding all_below
  taking_more h left_small touched_small =
      let next : get_or left k 0 ≡ get_or old k 0 = overwritten-at k (differ old touched) old left (omega (arith, left-size)) (omega arith) so.written in
      let touches : bit_xor (get_or tam k 0) (get_or sam k 0) ≡ get_or touched k 0 = sym (get_or-differ tam sam k (so_sam ∙ sym so_tam)) in
      record {
        few = omega arith;
        written =
            rw (next, touches, ← get_or-differ old touched k (touched-size ∙ sym so_old))
            (overwritten-step k (differ old touched) old left (omega (arith, left-size)) (omega arith) so.written);
        found =
            rw (not_left (get_or left k 0) (bit_xor (get_or tam k 0) (get_or sam k 0)) left_small touched_small, next, touches)
            (eqb-or wrong (bit_and (get_or touched k 0) (2 ^ word_bits - 1 - get_or old k 0))
            ∙ and_comm (eqb wrong 0) (word_left old touched k)
            ∙ ap (λ (t : Bool). word_left old touched k && t) so.found
            ∙ ap (λ (n : ℕ). all_below n (word_left old touched)) (sym (add-one k)));
      }

  -- in the end all are taken
  pub taking_all : bitmap_words ≤ k → TouchedTaken old touched (eqb wrong 0) left
  unfolding all_left
  taking_all h =
      let all : k ≡ bitmap_words = omega (arith, so.few) in
      record {
        answer = rw all at so.found;
        rest = overwritten-all k (differ old touched) old left (omega (arith, left-size)) (omega arith) so.written;
      }
