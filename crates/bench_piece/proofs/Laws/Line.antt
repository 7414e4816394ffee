-- A line that was kept, with byte 10 put behind it, is answered as if byte 10 had followed it in the input.
use Prim.Native.Nat.{ℕ, zero, suc, ◌+◌, ◌*◌, ◌≤◌, ◌<◌}
use mathlib.Core.Path.{◌≡◌, refl, sym, ap, subst, ◌∙◌}
use mathlib.Core.Bool.{Bool, true, false}
use mathlib.Core.List.{List, [], ◌∷◌, ◌++◌, append_assoc, append-nil}
use native.Mathlib.Numerals.{add-one}
use native.Mathlib.Nat.{pos_of_ne-zero}
use native.Mathlib.Omega.{arith}
use lib.ListN.{length, take, drop, set, length-set}
use lib.Seq.{drop-nil, length-take-le, take-suc-set}
use lib.Dec.{leb}
use borrow.Author.Tests.{leb-true, leb-false}
use Rattle.model_types.specs.declared.memory.Memory.{Memory}
use Rattle.model.specs.Rules.Line.{newline}
use Rattle.model.specs.Rules.Bench.{bench_of, max_lines}
use Rattle.bench_answer.specs.Put.{max_answer}
use Rattle.bench_state.specs.declared.run.Run.{Run}
use Rattle.bench_state.specs.Keep.{kept_room}
use Rattle.bench_step.specs.declared.lines.Lines.{Lines}
use Rattle.bench_step.specs.Cut.{NoEnd}
use Rattle.bench_step.specs.Output.{State, Leads, all_of, output_of, state_of}
use Rattle.bench_step.specs.Lines.{Answered}
use Rattle.bench_step.proofs.Laws.Output.{output-last, output-none}
use Rattle.bench_step.proofs.Laws.Leads.{leads-past, leads-bytes}
use Rattle.bench_piece.specs.Piece.{run_state, LineEnded, LastLine}

-- behind a byte 10 at the end there is no rest in which no line ends
ends_last : (line : List ℕ) → NoEnd (line ++ (newline ∷ [])) → ⊥
ends_last [] h = h 0 (omega arith) refl
ends_last (x ∷ line) h = ends_last line (λ i k. h (suc i) (omega arith))

none-behind : (line : List ℕ) (rest : ℕ) → NoEnd (drop rest (line ++ (newline ∷ []))) → drop rest (line ++ (newline ∷ [])) ≡ []
none-behind line zero h = absurd (ends_last line h)
none-behind [] (suc rest) h = drop-nil rest
none-behind (x ∷ line) (suc rest) h = none-behind line rest h

-- what follows bytes that lead on
leads-after : {first second third : State} (a b : List ℕ) → Leads first a second → Leads first (a ++ b) third → Leads second b third
leads-after {first} a b f s = record { same = λ more. sym (f.same (b ++ more)) ∙ ap (all_of first) (sym (append_assoc a b more)) ∙ s.same more }

-- no rest, if no more lines are read too
module _ {first : State} {bytes : List ℕ} (printed : List ℕ) (number : ℕ) (memory : Memory) (disk rest : List ℕ) where
  leads-none : (number ≤ max_lines → rest ≡ []) → Leads first bytes (state_of printed rest number memory disk) → Leads first bytes (state_of printed [] number memory disk)
  leads-none none f = go (leb number max_lines) refl
    where
      go : (t : Bool) → leb number max_lines ≡ t → Leads first bytes (state_of printed [] number memory disk)
      go true e = subst (λ (l : List ℕ). Leads first bytes (state_of printed l number memory disk)) (none (leb-true number max_lines e)) f
      go false e = record { same = λ more. f.same more ∙ (leads-past printed number memory disk rest [] [] (leb-false number max_lines e)).same more }

module _ (run : Run) (room : length run.line ≡ kept_room) where
  -- the bytes kept, and byte 10
  pub line-inside : run.len < length run.line
  line-inside = omega (arith, run.few, room)

  line-bytes : take (run.len + 1) (set run.line run.len newline) ≡ take run.len run.line ++ (newline ∷ [])
  line-bytes = rw (add-one run.len) (take-suc-set run.line run.len newline line-inside)

  line-length : length (take (run.len + 1) (set run.line run.len newline)) ≡ run.len + 1
  line-length = length-take-le (run.len + 1) (set run.line run.len newline) (rw (length-set run.line run.len newline) (omega (arith, line-inside)))

  module _ {disk out : List ℕ} {after : Lines} {memory-after : Memory} {disk-after out-after : List ℕ}
      (answered : Answered (take (run.len + 1) (set run.line run.len newline)) run.number run.memory disk out 0 after memory-after disk-after out-after) where
    pub line_leads : Leads (run_state [] run disk) (newline ∷ []) (state_of (take after.at out-after) [] after.number memory-after disk-after)
    line_leads =
        let first = take run.len run.line in
        let whole = subst (λ (bytes : List ℕ). Answered bytes run.number run.memory disk out 0 after memory-after disk-after out-after) line-bytes answered in
        leads-none (take after.at out-after) after.number memory-after disk-after (drop after.rest (first ++ (newline ∷ [])))
        (λ read. none-behind first after.rest (whole.unended read))
        (leads-after first (newline ∷ []) (leads-bytes [] run.number run.memory disk [] first run.unended) whole.leads)

    pub line_room : after.at ≤ max_answer * kept_room
    line_room = omega (arith, answered.room, answered.lines, answered.within, line-length, run.few)

-- at the input's end: with no byte kept all is printed, and a line that is kept is answered as if byte 10 ended it
module _ (run : Run) (disk : List ℕ) where
  last_none : run.len ≡ 0 → all_of (run_state [] run disk) [] ≡ []
  unfolding all_of
  last_none e = ap (λ (n : ℕ). output_of (take n run.line) run.number (bench_of run.memory disk 0 0) []) e ∙ output-none run.number (bench_of run.memory disk 0 0)

  last_line : {after : Run} {disk-after : List ℕ} {end : ℕ} {out : List ℕ} → 0 < length (take run.len run.line) → LineEnded (run_state [] run disk) after disk-after end out
      → all_of (run_state [] run disk) [] ≡ take end out
  unfolding all_of
  last_line {after} {disk-after} {end} {out} h ended =
      let bench = bench_of after.memory disk-after 0 0 in
      output-last (take run.len run.line) run.number (bench_of run.memory disk 0 0) h
      ∙ ended.leads.same []
      ∙ ap (λ (n : ℕ). take end out ++ output_of (take n after.line) after.number bench []) ended.none_kept
      ∙ ap (λ (l : List ℕ). take end out ++ l) (output-none after.number bench)
      ∙ append-nil (take end out)

  -- so this is all that is printed, and the output holds it
  pub last-ends : (out : List ℕ) → run.len ≡ 0 → LastLine (run_state [] run disk) 0 out
  last-ends out e = record { same = last_none e; within = omega arith }

  pub last-answered : {after : Run} {disk-after : List ℕ} {end : ℕ} {out : List ℕ} → length run.line ≡ kept_room → LineEnded (run_state [] run disk) after disk-after end out
      → (run.len ≡ 0 → ⊥) → max_answer * kept_room ≤ length out
      → LastLine (run_state [] run disk) end out
  last-answered room ended some fits = record {
    same = last_line (rw (length-take-le run.len run.line (omega (arith, line-inside run room))) (pos_of_ne-zero some)) ended;
    within = omega (arith, ended.room, fits);
  }

-- both
pub ruleset last_steps = (last-ends, last-answered)
