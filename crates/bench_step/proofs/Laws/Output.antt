-- What is printed: it depends on the memory and disk and not on the last answer, nothing follows the last line that is read, and of a
-- long line the first 65 bytes are enough.
use Prim.Native.Nat.{ℕ, zero, suc, ◌-◌, ◌≤◌, ◌<◌}
use mathlib.Core.Path.{◌≡◌, refl, sym, ap, ◌∙◌}
use mathlib.Core.List.{List, [], ◌∷◌, ◌++◌}
use mathlib.Core.Bool.{Bool, true, false, cond}
use native.Mathlib.Omega.{arith}
use lib.ListN.{length, take, length-append}
use lib.Seq.{take-nil, take_all, length-take-le}
use lib.Dec.{eqb, leb}
use borrow.Author.Tests.{leb-true, leb-false}
use Rattle.std.specs.Prelude.{Option, None, Some}
use Rattle.model_types.specs.declared.line.Line.{Line}
use Rattle.model.specs.Rules.Line.{newline, parse_line, answer_line}
use Rattle.model.specs.Rules.Bench.{Bench, bench_of, bench_start, bench_step, bench_output, lines_of, lines_from, output_from, max_lines}
use Rattle.bench_line.proofs.Laws.Line.{long-line}
use Rattle.bench_step.specs.Cut.{NoEnd}
use Rattle.bench_step.specs.Output.{output_of}
use Rattle.bench_step.proofs.Laws.Lines.{lines-skip, lines_end, lines-last}

-- all that the program prints
pub output-is : (input : List ℕ) → output_of [] 1 bench_start input ≡ bench_output input
unfolding output_of bench_output lines_of
output-is input = refl

-- the step takes no account of the last answer and value
step-forgets : (p : Option Line) (b : Bench) → bench_step p b ≡ bench_step p (bench_of b.memory b.disk 0 0)
unfolding bench_step
step-forgets None b = refl
step-forgets (Some line) b = refl

module _ (number : ℕ) where
  output-forgets : (lines : List (List ℕ)) (b : Bench) → output_from number lines b ≡ output_from number lines (bench_of b.memory b.disk 0 0)
  unfolding output_from
  output-forgets [] b = refl
  output-forgets (line ∷ lines) b =
      ap (λ (next : Bench). answer_line number next.answer next.value ++ output_from (suc number) lines next) (step-forgets (parse_line line) b)

module _ (line : List ℕ) (number : ℕ) (bench : Bench) where
  -- lines past the last that is read
  pub output-past : (bytes : List ℕ) → max_lines < number → output_of line number bench bytes ≡ []
  unfolding output_of output_from
  output-past bytes h =
      let none : suc max_lines - number ≡ 0 = omega arith in
      ap (λ (n : ℕ). output_from number (take n (lines_from line bytes)) bench) none

  -- a line that ends
  pub output-line : (bytes : List ℕ) → number ≤ max_lines
      → output_of line number bench (newline ∷ bytes)
      ≡ answer_line number (bench_step (parse_line line) bench).answer (bench_step (parse_line line) bench).value
      ++ output_of [] (suc number) (bench_of (bench_step (parse_line line) bench).memory (bench_step (parse_line line) bench).disk 0 0) bytes
  unfolding output_of output_from
  output-line bytes h =
      let left : suc max_lines - number ≡ suc (max_lines - number) = omega arith in
      let after : max_lines - number ≡ suc max_lines - suc number = omega arith in
      let rest : List (List ℕ) = lines_from [] bytes in
      let next : Bench = bench_step (parse_line line) bench in
      ap (λ (lines : List (List ℕ)). output_from number (take (suc max_lines - number) lines) bench) (lines_end line bytes)
      ∙ ap (λ (n : ℕ). output_from number (take n (line ∷ rest)) bench) left
      ∙ ap (λ (l : List ℕ). answer_line number next.answer next.value ++ l)
      (output-forgets (suc number) (take (max_lines - number) rest) next
      ∙ ap (λ (n : ℕ). output_from (suc number) (take n rest) (bench_of next.memory next.disk 0 0)) after)

  -- bytes of a line that hasn't ended
  pub output-skip : (part bytes : List ℕ) → NoEnd part → output_of line number bench (part ++ bytes) ≡ output_of (line ++ part) number bench bytes
  unfolding output_of
  output-skip part bytes h = ap (λ (lines : List (List ℕ)). output_from number (take (suc max_lines - number) lines) bench) (lines-skip part line bytes h)

-- a last line that no byte 10 ends is as one that does; with no byte there is no line
pub output-last : (line : List ℕ) (number : ℕ) (bench : Bench) → 0 < length line → output_of line number bench [] ≡ output_of line number bench (newline ∷ [])
unfolding output_of
output-last line number bench h = ap (λ (lines : List (List ℕ)). output_from number (take (suc max_lines - number) lines) bench) (lines-last line h)

pub output-none : (number : ℕ) (bench : Bench) → output_of [] number bench [] ≡ []
unfolding output_of lines_from output_from
output-none number bench = ap (λ (lines : List (List ℕ)). output_from number lines bench) (take-nil (suc max_lines - number))

-- a line's own bytes matter only by what they are parsed to
module _ (number : ℕ) (bench : Bench) (a b : List ℕ) (e : parse_line a ≡ parse_line b) (lines : List (List ℕ)) where
  same-parse : (left : ℕ) → output_from number (take left (a ∷ lines)) bench ≡ output_from number (take left (b ∷ lines)) bench
  unfolding output_from
  same-parse zero = refl
  same-parse (suc left) =
      ap (λ (p : Option Line). answer_line number (bench_step p bench).answer (bench_step p bench).value ++ output_from (suc number) (take left lines) (bench_step p bench)) e

-- any two long lines print the same
module _ (number : ℕ) (bench : Bench) where
  long_same : (a b bytes : List ℕ) → 64 < length a → 64 < length b → output_of a number bench bytes ≡ output_of b number bench bytes
  unfolding output_of lines_from
  long_same a b [] ha hb =
      output-last a number bench (omega arith)
      ∙ same-parse number bench a b (long-line a ha ∙ sym (long-line b hb)) [] (suc max_lines - number)
      ∙ sym (output-last b number bench (omega arith))
  long_same a b (c ∷ bytes) ha hb = go (eqb c newline) (long_same (a ++ (c ∷ [])) (b ++ (c ∷ [])) bytes (longer a ha) (longer b hb))
    where
      longer : (l : List ℕ) → 64 < length l → 64 < length (l ++ (c ∷ []))
      longer l h = rw (length-append l (c ∷ [])) (omega arith)

      go : (t : Bool)
          → output_of (a ++ (c ∷ [])) number bench bytes ≡ output_of (b ++ (c ∷ [])) number bench bytes
          → output_from number (take (suc max_lines - number) (cond t (a ∷ lines_from [] bytes) (lines_from (a ++ (c ∷ [])) bytes))) bench
          ≡ output_from number (take (suc max_lines - number) (cond t (b ∷ lines_from [] bytes) (lines_from (b ++ (c ∷ [])) bytes))) bench
      go true later = same-parse number bench a b (long-line a ha ∙ sym (long-line b hb)) (lines_from [] bytes) (suc max_lines - number)
      go false later = later

  -- the first 65 bytes of a line are enough
  pub output-kept : (line bytes : List ℕ) → output_of (take 65 line) number bench bytes ≡ output_of line number bench bytes
  output-kept line bytes = go (leb (length line) 65) refl
    where
      go : (t : Bool) → leb (length line) 65 ≡ t → output_of (take 65 line) number bench bytes ≡ output_of line number bench bytes
      go true e = ap (λ (l : List ℕ). output_of l number bench bytes) (take_all 65 line (leb-true (length line) 65 e))
      go false e =
          let h : 65 < length line = leb-false (length line) 65 e in
          long_same (take 65 line) line bytes (rw (length-take-le 65 line (omega arith)) (omega arith)) (omega arith)
