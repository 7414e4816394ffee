-- What a piece of input does.
use Rattle.std.specs.Prelude.{ℕ, ◌+◌, ◌*◌, ◌≤◌, ◌≡◌, List, [], ◌∷◌, length, take}
use Rattle.model.specs.Rules.Line.{newline}
use Rattle.bench_answer.specs.Put.{max_answer}
use Rattle.bench_state.specs.declared.run.Run.{Run}
use Rattle.bench_state.specs.Keep.{kept_room}
use Rattle.bench_step.specs.Output.{State, Leads, all_of, state_of}

-- the program's state between two pieces of input, with what is printed
abbrev pub run_state : (printed : List ℕ) → Run → (disk : List ℕ) → State
run_state printed run disk = state_of printed (take run.len run.line) run.number run.memory disk

-- a line that was kept has ended: byte 10 leads on, and no byte of a line stands
pub record LineEnded (first : State) (after : Run) (disk : List ℕ) (end : ℕ) (out : List ℕ) : Type 0 where
  pub leads : Leads first (newline ∷ []) (run_state (take end out) after disk)
  pub none_kept : after.len ≡ 0
  pub onward : first.number ≤ after.number
  pub room : end ≤ max_answer * kept_room
  pub answers : end + max_answer * first.number ≤ length first.printed + max_answer * after.number

-- the bytes lead from the first state to that after them, with the first bytes of the output printed, at most max_answer for
-- each line
pub record PieceRun (first : State) (bytes : List ℕ) (after : Run) (disk : List ℕ) (end : ℕ) (out : List ℕ) : Type 0 where
  pub leads : Leads first bytes (run_state (take end out) after disk)
  pub onward : first.number ≤ after.number
  pub within : end ≤ length out
  pub answers : end + max_answer * first.number ≤ length first.printed + max_answer * after.number

-- the input has ended: all that is left is printed
pub record LastLine (before : State) (end : ℕ) (out : List ℕ) : Type 0 where
  pub same : all_of before [] ≡ take end out
  pub within : end ≤ length out
