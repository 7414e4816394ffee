-- Between two lines that stand in a piece of input: what the loop over them keeps true, line by line.
use Prim.Native.Nat.{ℕ, suc, ◌+◌, ◌-◌, ◌*◌, ◌^◌, ◌≤◌, ◌<◌}
use mathlib.Core.Path.{◌≡◌, refl, sym, ap, ◌∙◌}
use mathlib.Core.List.{List, [], ◌∷◌, ◌++◌, append_assoc}
use native.Mathlib.Omega.{arith}
use lib.ListN.{length, take, drop, length-drop}
use lib.Seq.{take_all}
use mir.Syntax.{w32, w64}
use mir.Val.{Fits}
use Rattle.model_types.specs.declared.memory.Memory.{Memory}
use Rattle.model.specs.Rules.Line.{newline, parse_line, answer_line}
use Rattle.model.specs.Rules.Bench.{bench_of, bench_step, max_lines}
use Rattle.bench_answer.specs.Put.{Put, max_answer}
use Rattle.bench_answer.proofs.Laws.Answer.{answer-length}
use Rattle.bench_step.specs.Cut.{NoEnd, EndAt, NextEnd}
use Rattle.bench_step.specs.Output.{State, Leads, all_of, state_of}
use Rattle.bench_step.specs.Lines.{Answered}
use Rattle.bench_step.proofs.Laws.Cut.{line-none, line-rest, end_rest}
use Rattle.bench_step.proofs.Laws.Leads.{leads-then, leads-part, leads-bytes, leads-answer}

-- two states, each with bytes still to come, print the same
pub record Agree (first : State) (a : List ℕ) (second : State) (b : List ℕ) : Type 0 where
  pub same : (more : List ℕ) → all_of first (a ++ more) ≡ all_of second (b ++ more)

-- the first of the bytes to come
agree_then : {first second third : State} {a b : List ℕ} (part rest : List ℕ) → b ≡ part ++ rest → Agree first a second b → Leads second part third → Agree first a third rest
agree_then {second = second} part rest e f s = record {
  same = λ more. f.same more ∙ ap (λ (l : List ℕ). all_of second (l ++ more)) e ∙ ap (all_of second) (append_assoc part rest more) ∙ s.same (rest ++ more);
}

-- all of them
agree-all : {first second third : State} {a b : List ℕ} → Agree first a second b → Leads second b third → Leads first a third
agree-all f s = record { same = λ more. f.same more ∙ s.same more }

-- from the input's first line to the one that starts at index rest and ends at index end
pub record Going (input : List ℕ) (number₀ : ℕ) (memory₀ : Memory) (disk₀ out₀ : List ℕ) (at₀ : ℕ) (number : ℕ) (memory : Memory) (disk out : List ℕ) (at rest next : ℕ) : Type 0 where
  pub end : NextEnd input rest number next
  pub onward : number₀ ≤ number
  pub few : number ≤ suc max_lines
  pub lines : number ≤ number₀ + rest
  pub room : at + max_answer * number₀ ≤ at₀ + max_answer * number
  pub disk_length : length disk ≡ length disk₀
  pub out_length : length out ≡ length out₀
  pub agree : Agree (state_of (take at₀ out₀) [] number₀ memory₀ disk₀) input (state_of (take at out) [] number memory disk) (drop rest input)

pub going_start : (input : List ℕ) (number : ℕ) (memory : Memory) (disk out : List ℕ) (at next : ℕ) → NextEnd input 0 number next → number ≤ suc max_lines
    → Going input number memory disk out at number memory disk out at 0 next
going_start input number memory disk out at next end few = record {
  end = end;
  onward = omega arith;
  few = few;
  lines = omega arith;
  room = omega arith;
  disk_length = refl;
  out_length = refl;
  agree = record { same = λ more. refl };
}

module _ {input : List ℕ} {number₀ : ℕ} {memory₀ : Memory} {disk₀ out₀ : List ℕ} {at₀ : ℕ} {number : ℕ} {memory : Memory} {disk out : List ℕ} {at rest next : ℕ}
    (going : Going input number₀ memory₀ disk₀ out₀ at₀ number memory disk out at rest next) where
  -- one line more
  module _ (fits : at₀ + max_answer * length input ≤ length out₀) (inside : next < length input) where
    -- the next number and index fit, and less of the input is left
    pub number_fits : Fits w32 (number + 1)
    number_fits = omega (arith, going.few)

    pub index-fits : length input < 2 ^ 64 → Fits w64 (next + 1)
    index-fits h = omega (arith, inside, h)

    pub next-inside : next + 1 ≤ length input
    next-inside = omega (arith, inside)

    pub less-left : length input - (next + 1) < length input - rest
    less-left = omega (arith, inside, going.end.onward)

    pub going-room : at + max_answer ≤ length out
    going-room = omega (arith, fits, inside, going.room, going.lines, going.out_length, going.end.onward)

    module _ {memory-next : Memory} {disk-next : List ℕ} {answer value at_next : ℕ} {out-next : List ℕ}
        (step : bench_of memory-next disk-next answer value ≡ bench_step (parse_line (take (next - rest) (drop rest input))) (bench_of memory disk 0 0))
        (put : Put out at (answer_line number answer value) out-next at_next) where
      read : EndAt input rest next
      read = going.end.read (going.end.lines inside)

      going-agree :
          Agree (state_of (take at₀ out₀) [] number₀ memory₀ disk₀) input
          (state_of (take at_next out-next) [] (number + 1) memory-next disk-next) (drop (next + 1) input)
      going-agree =
          let line : List ℕ = take (next - rest) (drop rest input) in
          agree_then (line ++ (newline ∷ [])) (drop (next + 1) input)
          (line-rest input rest next read ∙ ap (λ (l : List ℕ). line ++ l) (end_rest input rest next read inside) ∙ sym (append_assoc line (newline ∷ []) (drop (next + 1) input)))
          going.agree
          (leads-then line (newline ∷ [])
          (leads-part (take at out) number memory disk [] line (line-none input rest next read))
          (leads-answer line number at memory disk out memory-next disk-next answer value at_next out-next step put (going.end.lines inside) (omega (arith, going-room))))

      pub going-turn : {next-after : ℕ} → NextEnd input (next + 1) (number + 1) next-after → length disk-next ≡ length disk → length out-next ≡ length out
          → Going input number₀ memory₀ disk₀ out₀ at₀ (number + 1) memory-next disk-next out-next at_next (next + 1) next-after
      going-turn end same-disk same_out = record {
        end = end;
        onward = omega (arith, going.onward);
        few = omega (arith, going.end.lines inside);
        lines = omega (arith, going.lines, going.end.onward);
        room = omega (arith, put.next_is, answer-length number answer value, going.room);
        disk_length = same-disk ∙ going.disk_length;
        out_length = same_out ∙ going.out_length;
        agree = going-agree;
      }

  -- no line ends any more
  module _ (over : length input ≤ next) where
    rest-none : number ≤ max_lines → NoEnd (drop rest input)
    rest-none h =
        rw (← take_all (next - rest) (drop rest input) (omega (arith, length-drop rest input, over))) (line-none input rest next (going.end.read h))

    pub going-ends : Answered input number₀ memory₀ disk₀ out₀ at₀ (record { number = number; at = at; rest = rest }) memory disk out
    going-ends = record {
      leads = agree-all going.agree (leads-bytes (take at out) number memory disk [] (drop rest input) rest-none);
      within = omega (arith, going.end.onward, going.end.within);
      unended = rest-none;
      onward = going.onward;
      few = going.few;
      lines = going.lines;
      room = going.room;
    }
