-- What follows from what functions are given.
use Prim.Native.Nat.{ℕ, ◌≤◌}
use mathlib.Core.Path.{◌≡◌}
use mathlib.Core.List.{List}
use native.Mathlib.Omega.{arith}
use lib.ListN.{length}
use Rattle.bitmap.specs.Sizes.{bitmap_words}
use Rattle.model.specs.Rules.Stores.{changes}
use Rattle.model.specs.Rules.Disk.{log_length}
use Rattle.model.proofs.Laws.Commit.Changes.{changes-length}
use Rattle.disk_log.proofs.Laws.Replay.{entries-few}
use Rattle.disk_log.specs.Given.{Logged}

-- at most all words change
pub changed_few : (old new : List ℕ) {changed : ℕ} → length old ≡ bitmap_words → changed ≡ length (changes old new) → changed ≤ bitmap_words
changed_few old new o c = omega (arith, changes-length old new)

-- a valid log has few entries
pub logged-few : (disk : List ℕ) → Logged disk → log_length disk ≤ bitmap_words
logged-few disk logged = entries-few disk logged.few_blocks logged.log
