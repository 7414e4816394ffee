-- The bench program: the step from a line to the next memory, disk and answer, and all of its output.
use Rattle.std.specs.Prelude.{ℕ, suc, cond, List, [], ◌∷◌, ◌++◌, length, take, replicate, eqb, Option, Some, None}
use Rattle.bitmap.specs.Sizes.{max_count}
use Rattle.model.specs.Types.{Memory, LineMalformed}
use Rattle.model_types.specs.declared.line.Op.{Op}
use Rattle.model_types.specs.declared.line.Line.{Line}
use Rattle.model.specs.Rules.Sizes.{disk_words}
use Rattle.model_types.specs.Errors.{code}
use Rattle.model_types.specs.Memory.{zero_memory}
use Rattle.model.specs.Rules.Line.{newline, parse_line, answer_line}
use Rattle.model.specs.Rules.Outcome.{Outcome, outcome, format_outcome, open_call, start_call, allocate_call, deallocate_call, precommit_call, commit_call, drop_call, revoke_call, store_call, status_call, crash_call}

-- "It reads up to 60,000 lines"
abbrev pub max_lines : ℕ
max_lines = 60000

-- "The list lent is 64 long."
abbrev pub bench_list : List ℕ
bench_list = replicate max_count 0

-- the memory and disk between two lines, and the last line's answer and value
pub record Bench : Type 0 where
  pub memory : Memory
  pub disk : List ℕ
  pub answer : ℕ
  pub value : ℕ

abbrev pub bench_of : Memory → List ℕ → ℕ → ℕ → Bench
bench_of memory disk answer value = record { memory = memory; disk = disk; answer = answer; value = value }

-- "It starts with a medium of 386 zero words and a memory of zeros, which isn't fit."
abbrev pub bench_start : Bench
bench_start = bench_of zero_memory (replicate disk_words 0) 0 0

-- what is kept and printed of a call
abbrev pub printed : Outcome → Bench
printed after = bench_of after.memory after.disk after.number after.value

-- "a refused open keeps the old one"
abbrev pub keeping_old : Memory → Outcome → Bench
keeping_old memory after = bench_of (cond (eqb after.number 0) after.memory memory) after.disk after.number after.value

-- the call of a line, n being the count or the block
unfoldable pub bench_call : Op → ℕ → ℕ → Memory → List ℕ → Bench
bench_call Op.Format s n memory disk = printed (format_outcome n memory disk)
bench_call Op.Open s n memory disk = keeping_old memory (outcome open_call memory disk)
bench_call Op.Start s n memory disk = printed (outcome (start_call s) memory disk)
bench_call Op.Allocate s n memory disk = printed (outcome (allocate_call s n bench_list) memory disk)
bench_call Op.Deallocate s n memory disk = printed (outcome (deallocate_call s n) memory disk)
bench_call Op.Precommit s n memory disk = printed (outcome (precommit_call s) memory disk)
bench_call Op.Commit s n memory disk = printed (outcome (commit_call s) memory disk)
bench_call Op.Drop s n memory disk = printed (outcome (drop_call s) memory disk)
bench_call Op.Revoke s n memory disk = printed (outcome (revoke_call s) memory disk)
bench_call Op.Store s n memory disk = printed (outcome store_call memory disk)
bench_call Op.Status s n memory disk = printed (outcome status_call memory disk)
bench_call Op.Crash s n memory disk = printed (outcome crash_call memory disk)

-- a line not in form gets 21, and alters nothing
unfoldable pub bench_step : Option Line → Bench → Bench
bench_step None b = bench_of b.memory b.disk (code LineMalformed) 0
bench_step (Some line) b = bench_call line.op line.slot line.n b.memory b.disk

-- "A line ends at byte 10, or at the input's end if bytes follow the last byte 10."
unfoldable pub lines_from : List ℕ → List ℕ → List (List ℕ)
lines_from line [] = cond (eqb (length line) 0) [] (line ∷ [])
lines_from line (b ∷ bytes) = cond (eqb b newline) (line ∷ lines_from [] bytes) (lines_from (line ++ (b ∷ [])) bytes)

unfoldable pub lines_of : List ℕ → List (List ℕ)
lines_of input = lines_from [] input

-- the answer lines of a list of lines, the first of which is numbered call
unfoldable pub output_from : ℕ → List (List ℕ) → Bench → List ℕ
output_from call [] b = []
output_from call (line ∷ lines) b =
    let next = bench_step (parse_line line) b in
    answer_line call next.answer next.value ++ output_from (suc call) lines next

-- all that the program prints. "lines past 60,000 aren't read"
unfoldable pub bench_output : List ℕ → List ℕ
bench_output input = output_from 1 (take max_lines (lines_of input)) bench_start
