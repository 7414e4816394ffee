-- The state before the first line.
use Rattle.std.specs.Prelude.{◌≡◌, replicate}
use Rattle.model_types.specs.Memory.{zero_memory}
use Rattle.bench_state.specs.Keep.{kept_room}
use Rattle.bench_state.specs.declared.run.Run.{Run}

-- nothing is in the memory or kept of a line, and the first line's number is 1
pub record Begun (run : Run) : Type 0 where
  pub memory : run.memory ≡ zero_memory
  pub number : run.number ≡ 1
  pub line : run.line ≡ replicate kept_room 0
  pub len : run.len ≡ 0
