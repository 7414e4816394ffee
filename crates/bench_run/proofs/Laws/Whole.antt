-- All of the input: what is written of the pieces read, and at the end, is the model's output.
use Prim.Native.Nat.{ℕ, ◌+◌, ◌-◌, ◌*◌, ◌^◌, ◌≤◌, ◌<◌}
use mathlib.Core.Path.{◌≡◌, refl, sym, ap, ◌∙◌}
use mathlib.Core.Bool.{Bool, true, false, ◌&&◌}
use mathlib.Core.List.{List, [], ◌++◌, append_assoc, append-nil}
use native.Mathlib.Omega.{arith}
use lib.ListN.{length, take, replicate, length-append}
use lib.Seq.{length-take-le}
use lib.Dec.{leb, ltb}
use borrow.Author.Tests.{leb-false, ltb-true, ltb-false}
use Rattle.model.proofs.Laws.Disk.Writes.{and_first}
use Rattle.model_types.specs.declared.memory.Memory.{Memory}
use Rattle.model.specs.Rules.Sizes.{disk_words}
use Rattle.model.specs.Rules.Bench.{bench_start, bench_of, bench_output, max_lines}
use Rattle.bench_answer.specs.Put.{max_answer}
use Rattle.bench_step.specs.Output.{State, Leads, all_of, output_of, state_of}
use Rattle.bench_step.proofs.Laws.Output.{output-is, output-past}
use Rattle.bench_state.specs.declared.run.Run.{Run}
use Rattle.bench_run.specs.declared.reading.Read.{Read}
use Rattle.bench_run.specs.declared.writing.Written.{Written}
use Rattle.bench_state.specs.Begun.{Begun}
use Rattle.bench_piece.specs.Piece.{run_state, PieceRun, LastLine}
use Rattle.bench_run.specs.declared.Done.{Done}
use Rattle.bench_run.specs.Whole.{Reached, Stopped, AllRead, Whole}

-- before the first byte
pub reached-none : Reached [] [] (record { printed = []; line = []; number = 1; bench = bench_start })
unfolding all_of
reached-none = record { same = λ more. sym (output-is more) }

-- one piece more, whose answers are written
pub reached-piece : {bytes written line : List ℕ} {number : ℕ} {memory : Memory} {disk : List ℕ} {first : State} (piece printed : List ℕ) → Reached bytes written first
    → Leads first piece (state_of printed line number memory disk)
    → Reached (bytes ++ piece) (written ++ printed) (state_of [] line number memory disk)
unfolding all_of
reached-piece {bytes} {written} {line} {number} {memory} {disk} piece printed reached leads = record {
  same =
      λ more.
      ap bench_output (append_assoc bytes piece more)
      ∙ reached.same (piece ++ more)
      ∙ ap (λ (l : List ℕ). written ++ l) (leads.same more)
      ∙ sym (append_assoc written printed (output_of line number (bench_of memory disk 0 0) more));
}

-- at the input's end
pub reached-end : {bytes written : List ℕ} {s : State} (end : List ℕ) → Reached bytes written s → all_of s [] ≡ end → written ++ end ≡ bench_output bytes
reached-end {bytes} {written} end reached e =
    ap (λ (l : List ℕ). written ++ l) (sym e) ∙ sym (reached.same []) ∙ ap bench_output (append-nil bytes)

-- once no more lines are read
pub reached-past : {bytes written : List ℕ} {s : State} → Reached bytes written s → max_lines < s.number → (more : List ℕ) → bench_output (bytes ++ more) ≡ bench_output bytes
unfolding all_of
reached-past {bytes} {written} {s} reached past more =
    reached.same more
    ∙ ap (λ (l : List ℕ). written ++ (s.printed ++ l)) (output-past s.line s.number s.bench more past ∙ sym (output-past s.line s.number s.bench [] past))
    ∙ sym (reached.same [])
    ∙ ap bench_output (append-nil bytes)

-- between two pieces, after so many of them: what was read and written so far. Each had a byte, and 4,096 at most
pub record Reading (run : Run) (disk : List ℕ) (in-account : Read) (out-account : Written) (pieces : ℕ) : Type 0 where
  pub bytes : List ℕ
  pub written : List ℕ
  pub reached : Reached bytes written (run_state [] run disk)
  pub taken : in-account.count ≡ length bytes
  pub counted : out-account.count ≡ length written
  pub answers : out-account.count + max_answer ≤ max_answer * run.number
  pub some : pieces ≤ in-account.count
  pub few : in-account.count ≤ 4096 * pieces

pub reading-start : {run : Run} {disk : List ℕ} {in-account : Read} {out-account : Written} → Begun run → disk ≡ replicate disk_words 0 → in-account.count ≡ 0 → out-account.count ≡ 0
    → Reading run disk in-account out-account 0
reading-start begun zeros r w = record {
  bytes = [];
  written = [];
  reached = rw (begun.len, begun.number, begun.memory, zeros) reached-none;
  taken = r;
  counted = w;
  answers = omega (arith, w, begun.number);
  some = omega arith;
  few = omega (arith, r);
}

-- one piece more, of n bytes
module _ {run : Run} {disk : List ℕ} {in-account : Read} {out-account : Written} {pieces : ℕ} (reading : Reading run disk in-account out-account pieces)
    (input : List ℕ) (n : ℕ) (inside : n ≤ length input) {after : Run} {disk-after : List ℕ} {end : ℕ} {out : List ℕ}
    (ran : PieceRun (run_state [] run disk) (take n input) after disk-after end out)
    {in_after : Read} (last : in_after.last ≡ n) (takes : in_after.count ≡ in-account.count + n)
    {out-after : Written} (writes : out-after.count ≡ out-account.count + length (take end out)) where
  reached-after : Reached (reading.bytes ++ take n input) (reading.written ++ take end out) (run_state [] after disk-after)
  reached-after = reached-piece (take n input) (take end out) reading.reached ran.leads

  taken_after : in_after.count ≡ length (reading.bytes ++ take n input)
  taken_after = rw (length-append reading.bytes (take n input)) (omega (arith, takes, reading.taken, length-take-le n input inside))

  counted-after : out-after.count ≡ length (reading.written ++ take end out)
  counted-after = rw (length-append reading.written (take end out)) (omega (arith, writes, reading.counted))

  answers-after : out-after.count + max_answer ≤ max_answer * after.number
  answers-after = omega (arith, writes, reading.answers, ran.answers, length-take-le end out ran.within)

  -- with more to read
  pub reading-more : (ltb 0 (length (take n input)) && leb after.number max_lines) ≡ true → n ≤ 4096 → Reading after disk-after in_after out-after (pieces + 1)
  reading-more on most = record {
    bytes = reading.bytes ++ take n input;
    written = reading.written ++ take end out;
    reached = reached-after;
    taken = taken_after;
    counted = counted-after;
    answers = answers-after;
    some = omega (arith, takes, reading.some, length-take-le n input inside, ltb-true 0 (length (take n input)) (and_first (ltb 0 (length (take n input))) (leb after.number max_lines) on));
    few = omega (arith, takes, reading.few, most);
  }

  -- or not
  pub reading-done : (ltb 0 (length (take n input)) && leb after.number max_lines) ≡ false → AllRead 4096 after disk-after (record { read = in_after; written = out-after })
  reading-done over = record {
    bytes = reading.bytes ++ take n input;
    written = reading.written ++ take end out;
    reached = reached-after;
    taken = taken_after;
    counted = counted-after;
    few = omega (arith, answers-after, after.lines);
    stopped = go (ltb 0 (length (take n input))) refl;
  }
    where
      go : (t : Bool) → ltb 0 (length (take n input)) ≡ t → Stopped 4096 in_after (reading.bytes ++ take n input)
      go true e = Stopped.lines_ended (reached-past reached-after (leb-false after.number max_lines (ap (λ (t : Bool). t && leb after.number max_lines) (sym e) ∙ over)))
      go false e = Stopped.input_ended (omega (arith, last, length-take-le n input inside, ltb-false 0 (length (take n input)) e))

-- the number of pieces is used up
pub reading-ends : {run : Run} {disk : List ℕ} {in-account : Read} {out-account : Written} {pieces : ℕ} → Reading run disk in-account out-account pieces → 2 ^ 64 - 1 ≤ pieces
    → AllRead 4096 run disk (record { read = in-account; written = out-account })
reading-ends {run} reading all = record {
  bytes = reading.bytes;
  written = reading.written;
  reached = reading.reached;
  taken = reading.taken;
  counted = reading.counted;
  few = omega (arith, reading.answers, run.lines);
  stopped = Stopped.count_ended (omega (arith, reading.some, all));
}

-- the last line's answer is written too
pub whole : {run : Run} {disk : List ℕ} {done : Done} {end : ℕ} {out : List ℕ} {out-after : Written} → AllRead 4096 run disk done
    → LastLine (run_state [] run disk) end out
    → out-after.count ≡ done.written.count + length (take end out)
    → Whole 4096 (record { read = done.read; written = out-after })
whole {end = end} {out} all last writes = record {
  bytes = all.bytes;
  written = all.written ++ take end out;
  output = reached-end (take end out) all.reached last.same;
  taken = all.taken;
  counted = rw (length-append all.written (take end out)) (omega (arith, writes, all.counted));
  stopped = all.stopped;
}
