-- A script: which call a number is, and the numbers of several bytes.
use Rattle.std.specs.Prelude.{ℕ, ◌+◌, ◌*◌, ◌≡◌, ◌⊎◌, List, get_or, Result, Ok, Err, ◌<◌}
use Rattle.script.specs.declared.Call.{Call}
use Rattle.script.specs.declared.Call.TheVariants.{Format, Open, Start, Allocate, AllocateExtent, Deallocate, Precommit, Commit, Drop, Revoke, Store, Status, CommitCost, Reserve}
use Rattle.script.specs.declared.NoCall.{NoCall}

-- the number of a call
abbrev pub number_of : Call → ℕ
number_of Format = 1
number_of Open = 2
number_of Start = 3
number_of Allocate = 4
number_of AllocateExtent = 5
number_of Deallocate = 6
number_of Precommit = 7
number_of Commit = 8
number_of Drop = 9
number_of Revoke = 10
number_of Store = 11
number_of Status = 12
number_of CommitCost = 13
number_of Reserve = 14

-- the call that a number is; 0 and numbers from 15 on are none
abbrev pub IsCall : ℕ → Result Call NoCall → Type 0
IsCall n (Ok call) = n ≡ number_of call
IsCall n (Err none) = (n ≡ 0) ⊎ (14 < n)

-- the number that two bytes are, the lower one first
abbrev pub two_bytes : List ℕ → ℕ → ℕ
two_bytes script at = get_or script at 0 + 256 * get_or script (at + 1) 0

-- and that four are
abbrev pub four_bytes : List ℕ → ℕ → ℕ
four_bytes script at = two_bytes script at + 65536 * two_bytes script (at + 2)
