-- Lines of the input: bytes with no byte 10 among them, and a line's end.
use Prim.Native.Nat.{ℕ, suc, ◌<◌}
use mathlib.Core.Path.{◌≡◌, refl, sym, ap, ◌∙◌}
use mathlib.Core.Bool.{cond}
use mathlib.Core.List.{List, [], ◌∷◌, ◌++◌, append_assoc, append-nil}
use native.Mathlib.Omega.{arith}
use lib.ListN.{length}
use borrow.Author.Tests.{ne_eqb}
use Rattle.model.specs.Rules.Line.{newline}
use Rattle.model.specs.Rules.Bench.{lines_from}
use Rattle.bench_step.specs.Cut.{NoEnd}

-- bytes with no byte 10 belong to the line that has begun
pub lines-skip : (part line bytes : List ℕ) → NoEnd part → lines_from line (part ++ bytes) ≡ lines_from (line ++ part) bytes
unfolding lines_from
lines-skip [] line bytes h = ap (λ (l : List ℕ). lines_from l bytes) (sym (append-nil line))
lines-skip (b ∷ part) line bytes h =
    ap (λ t. cond t (line ∷ lines_from [] (part ++ bytes)) (lines_from (line ++ (b ∷ [])) (part ++ bytes))) (ne_eqb b newline (h 0 (omega arith)))
    ∙ lines-skip part (line ++ (b ∷ [])) bytes (λ i k. h (suc i) (omega arith))
    ∙ ap (λ (l : List ℕ). lines_from l bytes) (append_assoc line (b ∷ []) part)

-- byte 10 ends a line
pub lines_end : (line bytes : List ℕ) → lines_from line (newline ∷ bytes) ≡ line ∷ lines_from [] bytes
unfolding lines_from
lines_end line bytes = refl

-- the input's end ends a line that has a byte
pub lines-last : (line : List ℕ) → 0 < length line → lines_from line [] ≡ lines_from line (newline ∷ [])
unfolding lines_from
lines-last line h = ap (λ t. cond t [] (line ∷ [])) (ne_eqb (length line) 0 (λ e. omega arith))
