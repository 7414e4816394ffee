-- Three tests in turn: the first that fails decides, and the last if none before it does.
use mathlib.Core.Path.{◌≡◌}
use mathlib.Core.Bool.{Bool, true, false, ◌&&◌}

pub stop-first : {a : Bool} (b c : Bool) → a ≡ false → (a && b && c) ≡ false
stop-first b c p = rw p

pub stop-second : {a b : Bool} (c : Bool) → a ≡ true → b ≡ false → (a && b && c) ≡ false
stop-second c p q = rw (p, q)

pub go-last : {a b : Bool} (c : Bool) → a ≡ true → b ≡ true → (a && b && c) ≡ c
go-last c p q = rw (p, q)
