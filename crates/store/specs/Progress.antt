-- Pending work of which a store is left.
use Rattle.std.specs.Prelude.{◌<◌}
use Rattle.model_types.specs.declared.memory.Pending.{Pending}
use Rattle.model.specs.Rules.Pending.{stores_done, stores_due}

abbrev pub StoreLeft : Pending → Type 0
StoreLeft pending = stores_done pending < stores_due pending
