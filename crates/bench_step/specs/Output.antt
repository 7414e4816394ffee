-- What the program prints from a place in its input on, and when some bytes of input lead it from one state to another.
use Rattle.std.specs.Prelude.{ℕ, suc, ◌-◌, ◌≡◌, List, ◌++◌, take}
use Rattle.model_types.specs.declared.memory.Memory.{Memory}
use Rattle.model.specs.Rules.Bench.{Bench, bench_of, max_lines, lines_from, output_from}

-- the answers still to be printed: line is what stands since the last byte 10, number is the next line's, from 1 on, and
-- bytes is the input that follows
unfoldable pub output_of : (line : List ℕ) → (number : ℕ) → (bench : Bench) → (bytes : List ℕ) → List ℕ
output_of line number bench bytes = output_from number (take (suc max_lines - number) (lines_from line bytes)) bench

-- between two bytes of input: what is printed, the bytes since the last byte 10, the next line's number, the memory and disk
pub record State : Type 0 where
  pub printed : List ℕ
  pub line : List ℕ
  pub number : ℕ
  pub bench : Bench

abbrev pub state_of : (printed line : List ℕ) → (number : ℕ) → Memory → (disk : List ℕ) → State
state_of printed line number memory disk = record { printed = printed; line = line; number = number; bench = bench_of memory disk 0 0 }

-- all that is printed, if these bytes follow
unfoldable pub all_of : State → List ℕ → List ℕ
all_of s bytes = s.printed ++ output_of s.line s.number s.bench bytes

-- the bytes lead from the first state to the second: whatever follows, all that is printed is the same from both
pub record Leads (first : State) (bytes : List ℕ) (second : State) : Type 0 where
  pub same : (more : List ℕ) → all_of first (bytes ++ more) ≡ all_of second more
