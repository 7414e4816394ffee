-- By whether there are entries.
use Rattle.volume.proofs.Laws.Open.{none-due, some-due}
use Rattle.volume.proofs.open.recovery_due.Goals as goal

pub returns-then-entries-eq0 : goal.returns-then-entries-eq0
returns-then-entries-eq0 c = none-due _ c.if-entries-eq0.true

pub returns-else-entries-eq0 : goal.returns-else-entries-eq0
returns-else-entries-eq0 c = some-due _ c.if-entries-eq0.false
