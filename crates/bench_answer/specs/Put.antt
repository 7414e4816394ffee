-- Bytes put into a list.
use Rattle.std.specs.Prelude.{ℕ, ◌+◌, ◌*◌, ◌≡◌, List, ◌++◌, length, take, drop}

-- the most digits of a number of 32 bits
abbrev pub max_decimal : ℕ
max_decimal = 10

-- the most bytes of an answer line: "call=", " answer=", " value=", byte 10 and three numbers
abbrev pub max_answer : ℕ
max_answer = 21 + 3 * max_decimal

-- the bytes stand in the list from index at on, next is the index after them, and the rest is as it was before
pub record Put (before : List ℕ) (at : ℕ) (bytes after : List ℕ) (next : ℕ) : Type 0 where
  pub next_is : next ≡ at + length bytes
  pub after_is : after ≡ take at before ++ bytes ++ drop next before
