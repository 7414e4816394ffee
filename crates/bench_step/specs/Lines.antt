-- The lines that end in a piece of input, answered.
use Rattle.std.specs.Prelude.{ℕ, suc, ◌+◌, ◌*◌, ◌≤◌, List, [], length, take, drop}
use Rattle.model_types.specs.declared.memory.Memory.{Memory}
use Rattle.model.specs.Rules.Bench.{max_lines}
use Rattle.bench_answer.specs.Put.{max_answer}
use Rattle.bench_step.specs.declared.lines.Lines.{Lines}
use Rattle.bench_step.specs.Cut.{NoEnd}
use Rattle.bench_step.specs.Output.{Leads, state_of}

-- the input leads from the state before, in which no byte of a line stands, to that after, in which the rest of the input
-- stands and no line ends. Each line has a byte at least, and its answer at most max_answer bytes
pub record Answered (input : List ℕ) (number : ℕ) (memory : Memory) (disk out : List ℕ) (at : ℕ) (after : Lines) (memory-after : Memory) (disk-after out-after : List ℕ) : Type 0 where
  pub leads :
      Leads (state_of (take at out) [] number memory disk) input
      (state_of (take after.at out-after) (drop after.rest input) after.number memory-after disk-after)
  pub within : after.rest ≤ length input
  pub unended : after.number ≤ max_lines → NoEnd (drop after.rest input)
  pub onward : number ≤ after.number
  pub few : after.number ≤ suc max_lines
  pub lines : after.number ≤ number + after.rest
  pub room : after.at + max_answer * number ≤ at + max_answer * after.number
