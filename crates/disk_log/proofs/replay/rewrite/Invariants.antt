-- The entries from the next on, written over the words as they are, make what all of them make of the first.
use mathlib.Core.Path.{◌≡◌}
use mathlib.Core.List.{map}
use lib.ListN.{drop}
use Rattle.model.specs.Rules.Stores.{writes}
use Rattle.model.specs.Rules.Disk.{log_entries}
use Rattle.disk_log.specs.Given.{entry_of}
use Rattle.disk_log.proofs.replay.rewrite.Given as goal

abbrev pub invariant-loop-number : goal.invariant-loop-number
invariant-loop-number l =
    writes (map entry_of (drop l.number-index l.number-items)) l.words ≡ writes (drop l.from (log_entries l.disk)) l.fn.words
