-- All entries agree if those from the next on do.
use mathlib.Core.Path.{◌≡◌}
use mathlib.Core.List.{map}
use lib.ListN.{drop}
use Rattle.model.specs.Rules.Disk.{log_entries, entries_agree}
use Rattle.disk_log.specs.Given.{entry_of}
use Rattle.disk_match.proofs.recovery.entries_agree.Given as goal

abbrev pub invariant-loop-number : goal.invariant-loop-number
invariant-loop-number l =
    entries_agree l.words (log_entries l.disk) ≡ entries_agree l.words (map entry_of (drop l.number-index l.number-items))
