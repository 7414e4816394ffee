-- What leads from one state to another: bytes after bytes, bytes of a line, a line's end.
use Prim.Native.Nat.{ℕ, suc, ◌+◌, ◌≤◌, ◌<◌}
use mathlib.Core.Path.{◌≡◌, refl, sym, ap, ap₂, ◌∙◌}
use mathlib.Core.List.{List, [], ◌∷◌, ◌++◌, append_assoc}
use mathlib.Core.Bool.{Bool, true, false}
use native.Mathlib.Numerals.{add-one}
use lib.ListN.{length, take, drop, length-append}
use lib.Seq.{length-take-le, take_at}
use lib.Dec.{leb}
use borrow.Author.Tests.{leb-true, leb-false}
use Rattle.model_types.specs.declared.memory.Memory.{Memory}
use Rattle.model.specs.Rules.Line.{newline, parse_line, answer_line}
use Rattle.model.specs.Rules.Bench.{Bench, bench_of, bench_step, max_lines}
use Rattle.bench_answer.specs.Put.{Put}
use Rattle.bench_step.specs.Cut.{NoEnd}
use Rattle.bench_step.specs.Output.{State, Leads, all_of, output_of, state_of}
use Rattle.bench_step.proofs.Laws.Output.{output-past, output-line, output-skip, output-kept}

-- bytes after bytes
pub leads-then : {first second third : State} (a b : List ℕ) → Leads first a second → Leads second b third → Leads first (a ++ b) third
leads-then {first} a b f s = record { same = λ more. ap (all_of first) (append_assoc a b more) ∙ f.same (b ++ more) ∙ s.same more }

module _ (printed : List ℕ) (number : ℕ) (memory : Memory) (disk : List ℕ) where
  -- bytes of a line that hasn't ended
  pub leads-part : (line part : List ℕ) → NoEnd part → Leads (state_of printed line number memory disk) part (state_of printed (line ++ part) number memory disk)
  unfolding all_of
  leads-part line part h = record { same = λ more. ap (λ (l : List ℕ). printed ++ l) (output-skip line number (bench_of memory disk 0 0) part more h) }

  -- of a line the first 65 bytes are enough
  pub leads-kept : {first : State} {bytes : List ℕ} (line kept : List ℕ) → kept ≡ take 65 line
      → Leads first bytes (state_of printed line number memory disk)
      → Leads first bytes (state_of printed kept number memory disk)
  unfolding all_of
  leads-kept line kept e f = record {
    same =
        λ more. f.same more ∙ ap (λ (l : List ℕ). printed ++ l) (sym (output-kept number (bench_of memory disk 0 0) line more) ∙ ap (λ (l : List ℕ). output_of l number (bench_of memory disk 0 0) more) (sym e));
  }

  -- past the last line that is read, bytes change nothing
  pub leads-past : (line bytes after : List ℕ) → max_lines < number → Leads (state_of printed line number memory disk) bytes (state_of printed after number memory disk)
  unfolding all_of
  leads-past line bytes after h = record {
    same = λ more. ap (λ (l : List ℕ). printed ++ l) (output-past line number (bench_of memory disk 0 0) (bytes ++ more) h ∙ sym (output-past after number (bench_of memory disk 0 0) more h));
  }

  -- bytes in which no line that is read ends
  pub leads-bytes : (line part : List ℕ) → (number ≤ max_lines → NoEnd part) → Leads (state_of printed line number memory disk) part (state_of printed (line ++ part) number memory disk)
  leads-bytes line part h = go (leb number max_lines) refl
    where
      go : (t : Bool) → leb number max_lines ≡ t → Leads (state_of printed line number memory disk) part (state_of printed (line ++ part) number memory disk)
      go true e = leads-part line part (h (leb-true number max_lines e))
      go false e = leads-past line part (line ++ part) (leb-false number max_lines e)

-- bytes put behind what is printed
module _ (out : List ℕ) (at : ℕ) (bytes after : List ℕ) (next : ℕ) (inside : at ≤ length out) (put : Put out at bytes after next) where
  put-printed : take next after ≡ take at out ++ bytes
  put-printed =
      ap (take next) put.after_is
      ∙ take_at (take at out ++ bytes) (drop next out) next
      (length-append (take at out) bytes ∙ ap (λ (n : ℕ). n + length bytes) (length-take-le at out inside) ∙ sym put.next_is)

-- a line's end: its call is made and its answer printed
module _ (line : List ℕ) (number at : ℕ) (memory : Memory) (disk out : List ℕ) (memory-next : Memory) (disk-next : List ℕ) (answer value next : ℕ) (out-next : List ℕ)
    (step : bench_of memory-next disk-next answer value ≡ bench_step (parse_line line) (bench_of memory disk 0 0))
    (put : Put out at (answer_line number answer value) out-next next) (lines : number ≤ max_lines) (inside : at ≤ length out) where
  pub leads-answer : Leads (state_of (take at out) line number memory disk) (newline ∷ []) (state_of (take next out-next) [] (number + 1) memory-next disk-next)
  unfolding all_of
  leads-answer =
      let later : Bench → List ℕ → List ℕ = λ b more. answer_line number b.answer b.value ++ output_of [] (suc number) (bench_of b.memory b.disk 0 0) more in
      record {
        same =
            λ more.
            ap (λ (l : List ℕ). take at out ++ l)
            (output-line line number (bench_of memory disk 0 0) more lines ∙ ap (λ (b : Bench). later b more) (sym step))
            ∙ sym (append_assoc (take at out) (answer_line number answer value) (output_of [] (suc number) (bench_of memory-next disk-next 0 0) more))
            ∙ ap₂ (λ (front : List ℕ) (n : ℕ). front ++ output_of [] n (bench_of memory-next disk-next 0 0) more)
            (sym (put-printed out at (answer_line number answer value) out-next next inside put))
            (sym (add-one number));
      }
