-- A line that stands in a piece of input.
use Prim.Native.Nat.{ℕ, ◌+◌, ◌-◌, ◌≤◌, ◌<◌}
use mathlib.Core.Path.{◌≡◌, sym, ap, ap₂, ◌∙◌}
use mathlib.Core.List.{List, ◌∷◌, ◌++◌}
use mathlib.Core.Bool.{not, true≢false}
use native.Mathlib.Numerals.{add-one}
use native.Mathlib.Omega.{arith}
use lib.ListN.{length, take, drop, get_or, length-take, length-drop, take-append-drop}
use lib.Seq.{take_all, drop-cons, drop-drop, get_or-drop, get_or-take}
use lib.Dec.{eqb}
use Rattle.std.proofs.lemmas.Bool.{eqb-true}
use Rattle.std.specs.List.{position_or_len}
use Rattle.std.proofs.lemmas.List.Sums.{prefix_len-le-length, fails_before_first, passes_at_first}
use Rattle.model.specs.Rules.Line.{newline}
use Rattle.bench_step.specs.Cut.{NoEnd, EndAt}

module _ (bytes : List ℕ) (start next : ℕ) (end : EndAt bytes start next) where
  -- the bytes up to the line's end
  pub line-none : NoEnd (take (next - start) (drop start bytes))
  line-none i h e =
      let inside : i < next - start = omega (arith, length-take (next - start) (drop start bytes), h) in
      end.none (start + i) (omega arith) (omega (arith, inside))
      (sym (get_or-take (next - start) (drop start bytes) i 0 inside ∙ get_or-drop start bytes i 0) ∙ e)

  -- and what follows it
  pub line-rest : drop start bytes ≡ take (next - start) (drop start bytes) ++ drop next bytes
  line-rest =
      let e : start + (next - start) ≡ next = omega (arith, end.onward) in
      sym (take-append-drop (next - start) (drop start bytes))
      ∙ ap (λ (rest : List ℕ). take (next - start) (drop start bytes) ++ rest) (drop-drop (next - start) start bytes ∙ ap (λ (n : ℕ). drop n bytes) e)

  pub end_rest : next < length bytes → drop next bytes ≡ newline ∷ drop (next + 1) bytes
  end_rest h = drop-cons bytes next 0 h ∙ ap₂ (λ (b n : ℕ). b ∷ drop n bytes) (end.ends h) (sym (add-one next))

-- the first byte 10 from an index on
module _ (bytes : List ℕ) (start len : ℕ) (inside : start ≤ length bytes)
    (is : len ≡ position_or_len (λ byte. eqb byte newline) (take (length bytes - start) (drop start bytes))) where
  rest_len : len ≡ position_or_len (λ byte. eqb byte newline) (drop start bytes)
  rest_len = is ∙ ap (position_or_len (λ byte. eqb byte newline)) (take_all (length bytes - start) (drop start bytes) (omega (arith, length-drop start bytes)))

  pub end-inside : start + len ≤ length bytes
  end-inside = omega (arith, inside, rest_len, prefix_len-le-length (λ byte. not (eqb byte newline)) (drop start bytes), length-drop start bytes)

  passed : (i : ℕ) → start ≤ i → i < start + len → get_or bytes i 0 ≡ newline → ⊥
  passed i low high e =
      let at : start + (i - start) ≡ i = omega (arith, low) in
      let here : get_or (drop start bytes) (i - start) 0 ≡ newline = get_or-drop start bytes (i - start) 0 ∙ ap (λ (k : ℕ). get_or bytes k 0) at ∙ e in
      true≢false (sym (ap (λ (byte : ℕ). eqb byte newline) here) ∙ fails_before_first (λ byte. eqb byte newline) (drop start bytes) (i - start) 0 (omega (arith, low, high, rest_len)))

  ends-here : start + len < length bytes → get_or bytes (start + len) 0 ≡ newline
  ends-here h =
      ap (λ (k : ℕ). get_or bytes (start + k) 0) rest_len
      ∙ sym (get_or-drop start bytes (position_or_len (λ byte. eqb byte newline) (drop start bytes)) 0)
      ∙ eqb-true _ _ (passes_at_first (λ byte. eqb byte newline) (drop start bytes) 0 (omega (arith, h, rest_len, length-drop start bytes)))

  pub end-at : EndAt bytes start (start + len)
  end-at = record { onward = omega arith; within = end-inside; none = passed; ends = ends-here }
