-- Available blocks that may have been counted.
use Rattle.std.specs.Prelude.{ℕ, ◌≤◌, ◌≡◌, Option, Some, length}
use Rattle.bitmap.specs.Sizes.{max_blocks}
use Rattle.model_types.specs.declared.memory.Memory.{Memory}
use Rattle.model.specs.Rules.Available.{available}

-- they can be counted, and a number that is known is theirs
pub record CanCount (counted : Option ℕ) (memory : Memory) : Type 0 where
  pub few : memory.blocks ≤ max_blocks
  pub counted_is : (n : ℕ) → counted ≡ Some n → n ≡ length (available memory)
