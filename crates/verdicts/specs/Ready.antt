-- What a call that passes its slot's causes knows.
use Rattle.std.specs.Prelude.{ℕ}
use Rattle.model_types.specs.declared.memory.Memory.{Memory}
use Rattle.validity.specs.Checked.{counted_for}
use Rattle.verdicts.specs.declared.ready.Ready.{Ready}

-- the slot's place, and the available blocks where they have been counted
abbrev pub ready_of : Memory → ℕ → Ready
ready_of memory s = record { at = s; counted = counted_for memory }
