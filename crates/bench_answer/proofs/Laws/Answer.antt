-- The answer line, field by field.
use Prim.Native.Nat.{ℕ, ◌+◌, ◌≤◌}
use mathlib.Core.Path.{◌≡◌, subst}
use mathlib.Core.List.{List, [], ◌∷◌, ◌++◌, append_assoc}
use native.Mathlib.Omega.{arith}
use lib.ListN.{length, length-append}
use Rattle.model.specs.Rules.Line.{newline, call_field, answer_field, value_field, decimal, answer_line}
use Rattle.bench_answer.specs.Put.{Put, max_answer, max_decimal}
use Rattle.bench_answer.proofs.Laws.Decimal.{decimal-length}
use Rattle.bench_answer.proofs.Laws.Put.{put_then}

-- a name and a number
abbrev pub field : List ℕ → ℕ → List ℕ
field name n = name ++ decimal n

pub field-length : (name : List ℕ) (n : ℕ) → length (field name n) ≤ length name + max_decimal
field-length name n = rw (length-append name (decimal n)) (omega (arith, decimal-length n))

module _ (a b c d e f g : List ℕ) where
  pairs : a ++ b ++ (c ++ d) ++ (e ++ f) ++ g ≡ a ++ b ++ c ++ d ++ e ++ f ++ g
  pairs = simp append_assoc

  length-seven : length (a ++ b ++ c ++ d ++ e ++ f ++ g)
      ≡ length a + length b + length c + length d + length e + length f + length g
  length-seven = simp length-append

module _ (call answer value : ℕ) where
  answer-fields : field call_field call ++ field answer_field answer ++ field value_field value ++ (newline ∷ [])
      ≡ answer_line call answer value
  unfolding answer_line
  answer-fields = pairs call_field (decimal call) answer_field (decimal answer) value_field (decimal value) (newline ∷ [])

  -- no more than the room that is asked for it
  pub answer-length : length (answer_line call answer value) ≤ max_answer
  unfolding answer_line
  answer-length =
      rw (length-seven call_field (decimal call) answer_field (decimal answer) value_field (decimal value) (newline ∷ []))
      (omega (arith, decimal-length call, decimal-length answer, decimal-length value))

  -- the fields and byte 10, each put behind the last
  module _ {l l₁ l₂ l₃ l₄ : List ℕ} {at n₁ n₂ n₃ n₄ : ℕ} (inside : at ≤ length l) where
    pub put-answer : Put l at (field call_field call) l₁ n₁
        → Put l₁ n₁ (field answer_field answer) l₂ n₂
        → Put l₂ n₂ (field value_field value) l₃ n₃
        → Put l₃ n₃ (newline ∷ []) l₄ n₄
        → Put l at (answer_line call answer value) l₄ n₄
    put-answer p₁ p₂ p₃ p₄ =
        subst (λ (bytes : List ℕ). Put l at bytes l₄ n₄) answer-fields
        (put_then inside (put_then inside (put_then inside p₁ p₂) p₃) p₄)
