-- All of the input, and all that is written. No contract says what reading gives and what writing takes: a piece read is the
-- first bytes of the input, one written the first bytes of the output, and each is counted where it is read and written.
use Rattle.std.specs.Prelude.{ℕ, ◌+◌, ◌-◌, ◌*◌, ◌^◌, ◌≤◌, ◌≡◌, List, [], ◌++◌, length}
use Rattle.model.specs.Rules.Bench.{bench_output, max_lines}
use Rattle.bench_answer.specs.Put.{max_answer}
use Rattle.bench_step.specs.Output.{State, all_of}
use Rattle.bench_run.specs.declared.reading.Read.{Read}
use Rattle.bench_run.specs.declared.Done.{Done}
use Rattle.bench_state.specs.declared.run.Run.{Run}
use Rattle.bench_piece.specs.Piece.{run_state}

-- after these bytes of input, with these written: whatever follows, the output is what is written and what is still to be
-- printed
pub record Reached (bytes written : List ℕ) (s : State) : Type 0 where
  pub same : (more : List ℕ) → bench_output (bytes ++ more) ≡ written ++ all_of s more

-- why no more is read: the last piece read is empty; or whatever follows changes nothing, since no more lines are read; or
-- the bytes of a piece more, at most most of them, might take the count past 2 ^ 64 - 1
pub data Stopped (most : ℕ) (account : Read) (bytes : List ℕ) : Type 0 where
  input_ended : account.last ≡ 0 → Stopped most account bytes
  lines_ended : ((more : List ℕ) → bench_output (bytes ++ more) ≡ bench_output bytes) → Stopped most account bytes
  count_ended : 2 ^ 64 - 1 ≤ account.count + most → Stopped most account bytes

-- all pieces are read, and what they print is written
pub record AllRead (most : ℕ) (run : Run) (disk : List ℕ) (done : Done) : Type 0 where
  pub bytes : List ℕ
  pub written : List ℕ
  pub reached : Reached bytes written (run_state [] run disk)
  pub taken : done.read.count ≡ length bytes
  pub counted : done.written.count ≡ length written
  pub few : done.written.count ≤ max_answer * max_lines
  pub stopped : Stopped most done.read bytes

-- all that is written, one piece after the other, is the output of all that is read, at most most bytes at a time
pub record Whole (most : ℕ) (done : Done) : Type 0 where
  pub bytes : List ℕ
  pub written : List ℕ
  pub output : written ≡ bench_output bytes
  pub taken : done.read.count ≡ length bytes
  pub counted : done.written.count ≡ length written
  pub stopped : Stopped most done.read bytes
