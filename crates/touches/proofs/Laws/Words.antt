-- A word of what is touched and wasn't left.
use Prim.Native.Nat.{ℕ, ◌-◌, ◌^◌, ◌<◌}
use mathlib.Core.Path.{◌≡◌, refl, sym, ap, ◌∙◌}
use mathlib.Core.Bool.{Bool, true, false, not, xor, ◌&&◌}
use lib.Bits.{bit_and, bit_xor, and_lt, xor_lt}
use lib.Pow.{ones_sub-lt}
use Rattle.bitmap.specs.Sizes.{word_bits}
use Rattle.bitmap.specs.Bits.{is_set}
use Rattle.bitmap.proofs.Laws.Word.{is_set-and, is_set-xor, is_set-not, word-ext}

-- what is touched and not left is what is touched and in the rest, by a table
touch-rest : (t l : Bool) → (t && xor l t) ≡ (t && not l)
unfolding xor
touch-rest true true = refl
touch-rest true false = refl
touch-rest false l = refl

pub not_left : (left touched : ℕ) → left < 2 ^ word_bits → touched < 2 ^ word_bits → bit_and touched (bit_xor left touched) ≡ bit_and touched (2 ^ word_bits - 1 - left)
not_left left touched hl ht =
    word-ext word_bits (bit_and touched (bit_xor left touched)) (bit_and touched (2 ^ word_bits - 1 - left))
    (and_lt word_bits touched (bit_xor left touched) ht (xor_lt word_bits left touched hl ht))
    (and_lt word_bits touched (2 ^ word_bits - 1 - left) ht (ones_sub-lt word_bits left))
    (λ i l.
    is_set-and touched (bit_xor left touched) i
    ∙ ap (λ (u : Bool). is_set touched i && u) (is_set-xor left touched i)
    ∙ touch-rest (is_set touched i) (is_set left i)
    ∙ ap (λ (u : Bool). is_set touched i && u) (sym (is_set-not word_bits left i hl l))
    ∙ sym (is_set-and touched (2 ^ word_bits - 1 - left) i))
