-- Majority of three bits, and tables 2 and 3 of document 000 with document 01's corrections.
use Rattle.std.specs.Prelude.{Bool, true, false, ◌&&◌, ◌||◌}

-- at least two of three
unfoldable pub majority : Bool → Bool → Bool → Bool
majority a b c = (a && b) || (c && (a || b))

-- Table 3, commit: SAM, COM, TAM to the new SAM. Its rows 1 to 8
unfoldable pub commit_table : Bool → Bool → Bool → Bool
commit_table false false false = false
commit_table false false true = false
commit_table false true false = false
commit_table false true true = true
commit_table true false false = false
commit_table true false true = true
commit_table true true false = true
commit_table true true true = true

-- Table 2, rollback: SAM, COM, TAM to the new COM. Its rows 1 to 8
unfoldable pub rollback_table : Bool → Bool → Bool → Bool
rollback_table false false false = false
rollback_table false false true = false
rollback_table false true false = true
rollback_table false true true = false
rollback_table true false false = true
rollback_table true false true = false
rollback_table true true false = true
rollback_table true true true = true
