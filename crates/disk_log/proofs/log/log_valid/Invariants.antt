-- The log is valid if its entries from the next on may follow those before them.
use mathlib.Core.Path.{◌≡◌}
use mathlib.Core.List.{map}
use lib.ListN.{drop}
use Rattle.model.specs.Rules.Disk.{entries_valid, log_valid}
use Rattle.disk_log.specs.Given.{entry_of}
use Rattle.disk_log.proofs.log.log_valid.Given as goal

abbrev pub invariant-loop-number : goal.invariant-loop-number
invariant-loop-number l = log_valid l.disk ≡ entries_valid l.blocks l.low (map entry_of (drop l.number-index l.number-items))
