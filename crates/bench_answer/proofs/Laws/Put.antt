-- Bytes put into a list: one, and some after others.
use Prim.Native.Nat.{ℕ, suc, ◌+◌, ◌≤◌, ◌<◌}
use mathlib.Core.Path.{◌≡◌, refl, sym, ap, ap₂, ◌∙◌}
use mathlib.Core.List.{List, [], ◌∷◌, ◌++◌, append_assoc}
use native.Mathlib.Numerals.{add-one}
use native.Mathlib.Omega.{arith}
use lib.ListN.{length, take, drop, set, length-append}
use lib.Seq.{length-take-le, take_at, drop-append-add, drop-drop, set_split, append_snoc}
use Rattle.bench_answer.specs.Put.{Put}

-- one byte
pub put_one : (l : List ℕ) (at b : ℕ) → at < length l → Put l at (b ∷ []) (set l at b) (at + 1)
put_one l at b h = record {
  next_is = refl;
  after_is =
      set_split l at b h
      ∙ sym (append_snoc (take at l) b (drop (suc at) l))
      ∙ ap (λ (n : ℕ). take at l ++ (b ∷ []) ++ drop n l) (sym (add-one at));
}

-- bytes after bytes
module _ {l l₁ l₂ a b : List ℕ} {at n₁ n₂ : ℕ} (inside : at ≤ length l)
    (first : Put l at a l₁ n₁) (second : Put l₁ n₁ b l₂ n₂) where
  front_length : length (take at l ++ a) ≡ n₁
  front_length = length-append (take at l) a ∙ ap (λ (k : ℕ). k + length a) (length-take-le at l inside) ∙ sym first.next_is

  front_kept : take n₁ l₁ ≡ take at l ++ a
  front_kept = ap (take n₁) first.after_is ∙ take_at (take at l ++ a) (drop n₁ l) n₁ front_length

  rest-kept : drop n₂ l₁ ≡ drop n₂ l
  rest-kept =
      let front : List ℕ = take at l ++ a in
      let e : n₂ ≡ length front + length b = second.next_is ∙ ap (λ (k : ℕ). k + length b) (sym front_length) in
      ap₂ drop e first.after_is
      ∙ drop-append-add front (drop n₁ l) (length b)
      ∙ drop-drop (length b) n₁ l
      ∙ ap (λ (k : ℕ). drop k l) (sym second.next_is)

  pub put_then : Put l at (a ++ b) l₂ n₂
  put_then = record {
    next_is = second.next_is ∙ rw (first.next_is, length-append a b) (omega arith);
    after_is =
        second.after_is
        ∙ ap₂ (λ (front rest : List ℕ). front ++ b ++ rest) front_kept rest-kept
        ∙ ap (λ (front : List ℕ). front ++ drop n₂ l) (append_assoc (take at l) a b);
  }
