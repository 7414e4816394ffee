-- By whether there are entries.
use Rattle.volume.proofs.Laws.Open.{nothing-logged, some_logged}
use Rattle.volume.proofs.open.recovery.Goals as goal

pub returns-then-entries-eq0 : goal.returns-then-entries-eq0
returns-then-entries-eq0 c = nothing-logged _ c.if-entries-eq0.true

pub returns : goal.returns
returns c = some_logged _ c.if-entries-eq0.false c.recovery_due-due.ensures
