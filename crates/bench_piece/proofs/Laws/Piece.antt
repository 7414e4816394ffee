-- A piece of input: the bytes up to the first byte 10 belong to the line that is kept, and the other lines follow.
use Prim.Native.Nat.{ℕ, ◌+◌, ◌-◌, ◌≤◌, ◌<◌}
use mathlib.Core.Path.{◌≡◌, sym, ap, subst, ◌∙◌}
use mathlib.Core.List.{List, [], ◌∷◌, ◌++◌, append_assoc}
use native.Mathlib.Nat.{sub-zero}
use native.Mathlib.Omega.{arith}
use lib.ListN.{length, take, drop, length-drop, take-append-drop}
use lib.Seq.{take_all, take-length}
use Rattle.model_types.specs.declared.memory.Memory.{Memory}
use Rattle.model.specs.Rules.Line.{newline}
use Rattle.model.specs.Rules.Bench.{max_lines}
use Rattle.bench_state.specs.declared.run.Run.{Run}
use Rattle.bench_state.specs.Keep.{Keeps, kept}
use Rattle.bench_step.specs.declared.lines.Lines.{Lines}
use Rattle.bench_step.specs.Cut.{NoEnd, EndAt}
use Rattle.bench_step.specs.Output.{State, Leads, state_of}
use Rattle.bench_step.specs.Lines.{Answered}
use Rattle.bench_step.proofs.Laws.Cut.{line-none, end_rest}
use Rattle.bench_step.proofs.Laws.Leads.{leads-then, leads-bytes, leads-kept}
use Rattle.bench_piece.specs.Piece.{run_state}
use Rattle.bench_piece.proofs.Laws.Keep.{none_kept}

-- a slice from an index to its end
part-rest : (input : List ℕ) (n : ℕ) → take (length input - n) (drop n input) ≡ drop n input
part-rest input n = take_all (length input - n) (drop n input) (omega (arith, length-drop n input))

module _ (run : Run) {input : List ℕ} {next : ℕ} (end : EndAt input 0 next) {line_after : List ℕ} {len : ℕ}
    (keeps : Keeps (take next input) run.line run.len line_after len) where
  none : NoEnd (take next input)
  none = subst (λ (n : ℕ). NoEnd (take n input)) (sub-zero next) (line-none input 0 next end)

  -- the first bytes, kept behind the line's
  pub first-unended : run.number ≤ max_lines → NoEnd (take len line_after)
  first-unended read = none_kept keeps (run.unended read) none

  first-leads : (disk : List ℕ) → Leads (run_state [] run disk) (take next input) (state_of [] (take len line_after) run.number run.memory disk)
  first-leads disk =
      leads-kept [] run.number run.memory disk (take run.len run.line ++ take next input) (take len line_after) keeps.same
      (leads-bytes [] run.number run.memory disk (take run.len run.line) (take next input) (λ read. none))

  -- with no byte 10 they are all
  pub all-leads : {disk : List ℕ} → next ≡ length input → Leads (run_state [] run disk) input (state_of [] (take len line_after) run.number run.memory disk)
  all-leads {disk} e =
      subst (λ (bytes : List ℕ). Leads (run_state [] run disk) bytes (state_of [] (take len line_after) run.number run.memory disk))
      (ap (λ (n : ℕ). take n input) e ∙ take-length input) (first-leads disk)

  -- else the line is answered, and the other lines follow
  pub then-leads : {disk : List ℕ} {first last : State} → next < length input
      → Leads (state_of [] (take len line_after) run.number run.memory disk) (newline ∷ []) first
      → Leads first (take (length input - (next + 1)) (drop (next + 1) input)) last
      → Leads (run_state [] run disk) input last
  then-leads {disk} {last = last_state} inside ended rest =
      let first = take next input in
      let last = take (length input - (next + 1)) (drop (next + 1) input) in
      let e : input ≡ (first ++ (newline ∷ [])) ++ last =
      sym (take-append-drop next input)
      ∙ ap (λ (l : List ℕ). first ++ l) (end_rest input 0 next end inside ∙ ap (λ (l : List ℕ). newline ∷ l) (sym (part-rest input (next + 1))))
      ∙ sym (append_assoc first (newline ∷ []) last) in
      subst (λ (bytes : List ℕ). Leads (run_state [] run disk) bytes last_state) (sym e)
      (leads-then (first ++ (newline ∷ [])) last (leads-then first (newline ∷ []) (first-leads disk) ended) rest)

-- the lines behind the first, with what follows the last of them kept
module _ (run : Run) (empty : run.len ≡ 0) {input disk out : List ℕ} {at : ℕ} {lines : Lines} {memory-after : Memory} {disk-after out-after : List ℕ} {line_after : List ℕ} {len : ℕ}
    (answered : Answered input run.number run.memory disk out at lines memory-after disk-after out-after)
    (keeps : Keeps (take (length input - lines.rest) (drop lines.rest input)) run.line 0 line_after len) where
  pub rest-unended : lines.number ≤ max_lines → NoEnd (take len line_after)
  rest-unended read = none_kept keeps (λ i h e. omega arith) (subst NoEnd (sym (part-rest input lines.rest)) (answered.unended read))

  pub rest_leads : Leads (run_state (take at out) run disk) input (state_of (take lines.at out-after) (take len line_after) lines.number memory-after disk-after)
  rest_leads =
      subst (λ (n : ℕ). Leads (state_of (take at out) (take n run.line) run.number run.memory disk) input (state_of (take lines.at out-after) (take len line_after) lines.number memory-after disk-after))
      (sym empty)
      (leads-kept (take lines.at out-after) lines.number memory-after disk-after (drop lines.rest input) (take len line_after)
      (keeps.same ∙ ap (take kept) (part-rest input lines.rest)) answered.leads)
