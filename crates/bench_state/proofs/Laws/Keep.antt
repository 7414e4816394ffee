-- The bytes kept of a line are the line's first ones.
use Rattle.std.proofs.Common.{ℕ, ◌≡◌, ◌≤◌, ◌+◌, ◌-◌, sym, ap, ◌∙◌, List, ◌++◌, length, take, arith}
use Rattle.std.specs.Prelude.{min}
use Rattle.std.proofs.lemmas.List.{length-take-le, take_min}
use Rattle.std.proofs.Math.Seq.{take-append-add}
use Rattle.bench_state.specs.Keep.{kept}

-- a line's first bytes and as much of a part as fits
pub kept-front : (part line : List ℕ) (len : ℕ) → len ≤ kept → len ≤ length line
    → take len line ++ take (min (kept - len) (length part)) part ≡ take kept (take len line ++ part)
kept-front part line len few inside =
    let front = take len line in
    let all : length front + (kept - len) ≡ kept = omega (arith, length-take-le len line inside, few) in
    ap (λ (l : List ℕ). front ++ l) (take_min (kept - len) part)
    ∙ sym (take-append-add front part (kept - len))
    ∙ ap (λ (n : ℕ). take n (front ++ part)) all
