-- Output that waits to be written.
use Rattle.std.specs.Prelude.{ℕ, ◌+◌, ◌≡◌, ◌++◌, List, [], length, nat_le, if◌then◌else◌}
use Rattle.std.specs.Fmt.{WritesInCalls}

-- the bytes of a piece of output
abbrev pub piece : ℕ
piece = 65536

-- what waits once bytes are put behind what waits already: with no room for them that is written first, and more than a piece at once
abbrev pub put_behind : List ℕ → List ℕ → List ℕ
put_behind waits bytes =
    if nat_le (length waits + length bytes) piece
    then waits ++ bytes
    else (if nat_le (length bytes) piece then bytes else [])

-- a text is put, in one part or several, so that what waited first becomes what waits at last
abbrev pub Puts : List ℕ → List ℕ → List ℕ → Type 0
Puts first text last = WritesInCalls (λ waits bytes next. next ≡ put_behind waits bytes) first text last
