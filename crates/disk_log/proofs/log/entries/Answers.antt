-- The pairs of the log's words are its entries.
use native.Mathlib.Omega.{arith}
use Rattle.model.specs.Rules.Disk.{length_in, log_entries}
use Rattle.disk_log.proofs.Laws.Log.{log-pairs}
use Rattle.disk_log.proofs.log.entries.Goals as goal

pub returns : goal.returns
unfolding length_in log_entries
returns c = rw c.as_chunks.ensures.front (log-pairs c.args.disk.now _ _ (omega arith) (omega arith))
