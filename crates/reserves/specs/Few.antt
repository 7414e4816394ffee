-- A reserve as a valid memory has it.
use Rattle.std.specs.Prelude.{◌≤◌}
use Rattle.bitmap.specs.Sizes.{max_blocks}
use Rattle.model_types.specs.declared.memory.Reserve.{Reserve}

-- neither number is above the blocks that a volume can have
pub record Few (reserve : Reserve) : Type 0 where
  pub reservation : reserve.reservation ≤ max_blocks
  pub drawn : reserve.drawn ≤ max_blocks
