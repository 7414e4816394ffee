-- One block of a bitmap: its bit set, and its bit cleared.
use Rattle.std.specs.Prelude.{ℕ, ◌-◌, ◌/◌, ◌%◌, ◌^◌, List, get_or, set}
use Rattle.std.specs.Int.Bits.{bit_and, bit_or}

-- the words with block b's bit at 1
unfoldable pub put_bit : List ℕ → ℕ → List ℕ
put_bit words b = set words (b / 32) (bit_or (get_or words (b / 32) 0) (2 ^ (b % 32)))

-- the words with block b's bit at 0
unfoldable pub clear_bit : List ℕ → ℕ → List ℕ
clear_bit words b = set words (b / 32) (bit_and (get_or words (b / 32) 0) (2 ^ 32 - 1 - 2 ^ (b % 32)))
