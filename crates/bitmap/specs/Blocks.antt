-- Lists of blocks: those of a range at which a test holds, rising.
use Rattle.std.specs.Prelude.{ℕ, zero, suc, ◌-◌, Bool, true, false, not, cond, ◌&&◌, ◌||◌, List, [], ◌∷◌, eqb}
use Rattle.bitmap.specs.Bits.{bit}

-- of the n blocks from p on, those at which the test holds, rising
unfoldable pub scan : (ℕ → Bool) → ℕ → ℕ → List ℕ
scan test p zero = []
scan test p (suc n) = cond (test p) (p ∷ scan test (suc p) n) (scan test (suc p) n)

-- the blocks from p up to m at which the test holds, rising
unfoldable pub from : (ℕ → Bool) → ℕ → ℕ → List ℕ
from test m p = scan test p (m - p)

-- the allocated blocks of a volume of m, lowest first: "1 means allocated"
unfoldable pub allocated_blocks : ℕ → List ℕ → List ℕ
allocated_blocks m sam = from (bit sam) m 0

-- a block is available (document 01: grantable) with SAM 0 and COM 0
unfoldable pub is_available : List ℕ → List ℕ → ℕ → Bool
is_available sam «com» b = not (bit sam b) && not (bit «com» b)

-- the available blocks of a volume of m, lowest first
unfoldable pub available_blocks : ℕ → List ℕ → List ℕ → List ℕ
available_blocks m sam «com» = from (is_available sam «com») m 0

-- Document 02, job 1: "being taken (0, 1), being released (1, 0), held (1, 1)", of SAM and COM

-- a block is being allocated with SAM 0 and COM 1
unfoldable pub is_allocating : List ℕ → List ℕ → ℕ → Bool
is_allocating sam «com» b = not (bit sam b) && bit «com» b

-- a block is being freed with SAM 1 and COM 0
unfoldable pub is_freeing : List ℕ → List ℕ → ℕ → Bool
is_freeing sam «com» b = bit sam b && not (bit «com» b)

-- a block is held with SAM 1 and COM 1
unfoldable pub is_held : List ℕ → List ℕ → ℕ → Bool
is_held sam «com» b = bit sam b && bit «com» b

-- those of a volume of m, lowest first
unfoldable pub allocating_blocks : ℕ → List ℕ → List ℕ → List ℕ
allocating_blocks m sam «com» = from (is_allocating sam «com») m 0

unfoldable pub freeing_blocks : ℕ → List ℕ → List ℕ → List ℕ
freeing_blocks m sam «com» = from (is_freeing sam «com») m 0

unfoldable pub held_blocks : ℕ → List ℕ → List ℕ → List ℕ
held_blocks m sam «com» = from (is_held sam «com») m 0

-- whether a list has a block
unfoldable pub member : ℕ → List ℕ → Bool
member b [] = false
member b (x ∷ xs) = eqb b x || member b xs

-- whether the test holds at every number below n
unfoldable pub all_below : ℕ → (ℕ → Bool) → Bool
all_below zero test = true
all_below (suc n) test = test n && all_below n test
