-- Available blocks, a word at a time and one after another.
use Rattle.std.specs.Prelude.{ℕ, ◌-◌, ◌*◌, ◌^◌, min, List, get_or}
use Rattle.std.specs.Int.Bits.{bit_and, bit_or}
use Rattle.bitmap.specs.Blocks.{from, is_available}
use Rattle.bitmap.specs.Round.{round_from}

-- the available blocks of word k of a volume of m, as the bits of a word: those with neither bit set, below m
unfoldable pub available_word : ℕ → List ℕ → List ℕ → ℕ → ℕ
available_word m sam «com» k = bit_and (2 ^ 32 - 1 - bit_or (get_or sam k 0) (get_or «com» k 0)) (2 ^ min 32 (m - 32 * k) - 1)

-- the available blocks from p on, rising
abbrev pub available_from : ℕ → List ℕ → List ℕ → ℕ → List ℕ
available_from m sam «com» p = from (is_available sam «com») m p

-- the lowest of the available blocks from p on, or m where there is none
unfoldable pub next_available : ℕ → List ℕ → List ℕ → ℕ → ℕ
next_available m sam «com» p = get_or (available_from m sam «com» p) 0 m

-- the available blocks in the order met from p on, going round
abbrev pub available_round : ℕ → List ℕ → List ℕ → ℕ → List ℕ
available_round m sam «com» p = round_from (is_available sam «com») m p

-- the first of them, or m where there is none
unfoldable pub next_met : ℕ → List ℕ → List ℕ → ℕ → ℕ
next_met m sam «com» p = get_or (available_round m sam «com» p) 0 m
